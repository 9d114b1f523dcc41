-- The result of appending texts in order.
use Rattle.std.proofs.Common.{◌≡◌, ◌++◌, ◌∙◌, List, ℕ, ap, append_assoc, Result, Ok, Err, OnOk}

pub so_ok : {X E : Type 0} (r : Result X E) (P Q : Type 0) → (P → Q) → OnOk r P → OnOk r Q
so_ok (Ok x) P Q f p = f p
so_ok (Err e) P Q f p = tt

pub two : (a b c x y : List ℕ) → b ≡ a ++ x → c ≡ b ++ y → c ≡ a ++ (x ++ y)
two a b c x y e f = f ∙ ap (λ (l : List ℕ). l ++ y) e ∙ append_assoc a x y

pub three : (a b c d x y z : List ℕ) → b ≡ a ++ x → c ≡ b ++ y → d ≡ c ++ z → d ≡ a ++ (x ++ (y ++ z))
three a b c d x y z e f g = two a b d x (y ++ z) e (two b c d y z f g)

pub four : (a b c d k x y z w : List ℕ) → b ≡ a ++ x → c ≡ b ++ y → d ≡ c ++ z → k ≡ d ++ w → k ≡ a ++ (x ++ (y ++ (z ++ w)))
four a b c d k x y z w e f g h = two a b k x (y ++ (z ++ w)) e (three b c d k y z w f g h)
