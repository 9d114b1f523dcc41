-- A label that is shown, since its place is in the range.
use Rattle.std.specs.Prelude.{◌≡◌, ℕ, ◌≤◌, ℤ, List, [], ◌∷◌, codes, nat_le, refl, if◌then◌else◌}
use Rattle.std.proofs.Common.{sym, ◌∙◌, ap, subst}
use Rattle.std.proofs.lemmas.Bool.{le-leb}
use Rattle.chart_axes.specs.declared.scale.Scale.{Scale}
use Rattle.chart_axes.specs.Ticks.{label_of, lowered, multiple, price_part, price_parts, raised, time_part, time_parts}

-- a test that holds
taken : {X : Type 0} (a b : ℕ) (x y : X) → a ≤ b → (if nat_le a b then x else y) ≡ x
taken a b x y h = rw (le-leb a b h) refl

-- a label whose price is in the range, and one whose moment is in the trail

pub price_shown : (s : Scale) (step k above high : ℕ) (p : ℤ) → above ≡ multiple step (raised s.range.low) k → high ≡ raised s.range.high → above ≤ high → p ≡ lowered above → price_part s p ∷ [] ≡ price_parts s step k
price_shown s step k above high p is top low same =
    ap (λ (q : ℤ). price_part s q ∷ []) (same ∙ ap lowered is)
    ∙ sym (taken (multiple step (raised s.range.low) k) (raised s.range.high) (price_part s (lowered (multiple step (raised s.range.low) k)) ∷ []) []
    (subst (λ (n : ℕ). n ≤ raised s.range.high) is (subst (λ (n : ℕ). above ≤ n) top low)))

pub time_shown : (s : Scale) (span k ms t : ℕ) (text : List ℕ) → ms ≡ multiple span s.first k → ms ≤ s.last → t ≡ ms → text ≡ label_of s span t → time_part s (codes "middle") t text ∷ [] ≡ time_parts s span k
time_shown s span k ms t text is low same label =
    let at : t ≡ multiple span s.first k = same ∙ is in
    ap (λ (x : List ℕ). time_part s (codes "middle") t x ∷ []) label
    ∙ (ap (λ (n : ℕ). time_part s (codes "middle") n (label_of s span n) ∷ []) at
    ∙ sym (taken (multiple span s.first k) s.last (time_part s (codes "middle") (multiple span s.first k) (label_of s span (multiple span s.first k)) ∷ []) [] (subst (λ (n : ℕ). n ≤ s.last) is low)))
