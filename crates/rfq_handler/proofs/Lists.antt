use Rattle.std.proofs.Common.{◌≡◌, refl, sym, ap, ◌∙◌, ℕ, ◌+◌, Bool, true, false, ◌&&◌, ◌==◌, cond, eq-eqb, List, [], ◌∷◌, ◌++◌, append_assoc, find, Some, Option, None, IsSome, is_some, option_map}
use Rattle.std.proofs.lemmas.Bool.{eqb-true}
use Rattle.std.proofs.lemmas.List.Sums.{sum_by-append}
use Rattle.venue_rules.specs.declared.replies.Reply.{Reply}
use Rattle.venue_rules.specs.Run.{is_report}
use Rattle.rfq_handler.specs.Counting.{reports_in}

pub both : (b c : Bool) → (b && c) ≡ true → (b ≡ true) × (c ≡ true)
both true true h = (refl, refl)
both true false h = cc
both false c h = cc

pub both_true : (b c : Bool) → b ≡ true → c ≡ true → (b && c) ≡ true
both_true true true h k = refl
both_true true false h k = k
both_true false c h k = h

pub same_some : {X : Type 0} (x y : X) → Some x ≡ Some y → x ≡ y
same_some x y h = ap (λ o. elim o [ None ↦ x | Some z ↦ z ]) h

pub count-append : (rs ss : List Reply) → reports_in (rs ++ ss) ≡ reports_in rs + reports_in ss
count-append rs ss = sum_by-append (λ (r : Reply). cond (is_report r.what) 1 0) rs ss

-- a reply that is no report, before others
pub quiet-cons : (r : Reply) (rs : List Reply) → is_report r.what ≡ false → reports_in rs ≡ 0 → reports_in (r ∷ rs) ≡ 0
quiet-cons r rs h k = count-append (r ∷ []) rs ∙ ap (λ n. reports_in (r ∷ []) + n) k ∙ ap (λ b. 0 + cond b 1 0 + 0) h

pub quiet-append : (rs ss : List Reply) → reports_in rs ≡ 0 → reports_in ss ≡ 0 → reports_in (rs ++ ss) ≡ 0
quiet-append rs ss h k = count-append rs ss ∙ ap (λ n. n + reports_in ss) h ∙ ap (λ n. 0 + n) k

-- two elements appended
pub two-more : (rs : List Reply) (a b : Reply) → (rs ++ a ∷ []) ++ b ∷ [] ≡ rs ++ a ∷ b ∷ []
two-more rs a b = append_assoc rs (a ∷ []) (b ∷ [])

-- an element in the image has one before the map
pub is-there : {X Y : Type 0} (f : X → Y) (x : Option X) (y : Option Y) → option_map f x ≡ y → IsSome y → IsSome x
is-there f None y e h = ap is_some e ∙ h
is-there f (Some x) y e h = refl

-- a found element passes the test
found-passes : {X : Type 0} (p : X → Bool) (xs : List X) (x : X) → find p xs ≡ Some x → p x ≡ true
found-passes p [] x h = cc
found-passes {X} p (y ∷ ys) x h = by (p y) refl h (found-passes p ys x)
  where
    by : (b : Bool) → p y ≡ b → cond b (Some y) (find p ys) ≡ Some x → (find p ys ≡ Some x → p x ≡ true) → p x ≡ true
    by true e h rest = ap p (sym (same_some y x h)) ∙ e
    by false e h rest = rest h

-- an element found by a test of its number is found by the number
pub by-number : {X : Type 0} (num : X → ℕ) (p : ℕ → Bool) (xs : List X) (x : X) → find (λ y. p (num y)) xs ≡ Some x → find (λ y. num y == num x) xs ≡ Some x
by-number num p [] x h = cc
by-number {X} num p (y ∷ ys) x h = by (p (num y)) (num y == num x) refl refl h (by-number num p ys x)
  where
    by : (b c : Bool) → p (num y) ≡ b → num y == num x ≡ c → cond b (Some y) (find (λ z. p (num z)) ys) ≡ Some x → (find (λ z. p (num z)) ys ≡ Some x → find (λ z. num z == num x) ys ≡ Some x) → cond c (Some y) (find (λ z. num z == num x) ys) ≡ Some x
    by true true e f h rest = h
    by true false e f h rest = let never : true ≡ false = sym (eq-eqb (num y) (num x) (ap num (same_some y x h))) ∙ f in cc
    by false true e f h rest = let never : true ≡ false = sym (found-passes (λ z. p (num z)) ys x h) ∙ ap p (sym (eqb-true (num y) (num x) f)) ∙ e in cc
    by false false e f h rest = rest h
