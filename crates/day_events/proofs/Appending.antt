-- Two lists, one behind the other; and the first reply that refuses.
use Rattle.std.proofs.Common.{◌≡◌, List, ◌++◌, ap, ◌∙◌, append_assoc}

pub both : {A : Type 0} (old one all a b : List A) → one ≡ old ++ a → all ≡ one ++ b → all ≡ old ++ (a ++ b)
both old one all a b h last = last ∙ (ap (λ l. l ++ b) h ∙ append_assoc old a b)
