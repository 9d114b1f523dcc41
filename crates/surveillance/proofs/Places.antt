-- The places of participants, one after another.
use Rattle.std.specs.Prelude.{zero, suc}
use Rattle.std.proofs.Common.{◌≡◌, ℕ, ◌+◌, ◌-◌, ◌<◌, ◌≤◌, List, [], ◌∷◌, ◌++◌, sym, ap, ◌∙◌, arith, append_assoc, append-nil}
use Rattle.surveillance.specs.Deeds.{places_from}

pub places_on : (k n place : ℕ) (before more whole : List ℕ) → k < n → place ≡ k → more ≡ before ++ place ∷ [] → before ++ places_from k (n - k) ≡ whole → more ++ places_from (k + 1) (n - (k + 1)) ≡ whole
places_on k n place before more whole below is e h =
    let longer : n - k ≡ suc (n - (k + 1)) = omega arith in
    let rest = places_from (k + 1) (n - (k + 1)) in
    ap (λ (l : List ℕ). l ++ rest) e
    ∙ (append_assoc before (place ∷ []) rest
    ∙ (ap (λ (p : ℕ). before ++ (p ∷ rest)) is
    ∙ (ap (λ (j : ℕ). before ++ places_from k j) (sym longer) ∙ h)))

pub places_out : (k n : ℕ) (before whole : List ℕ) → n ≤ k → before ++ places_from k (n - k) ≡ whole → before ≡ whole
places_out k n before whole past h =
    let none : n - k ≡ 0 = omega arith in
    sym (append-nil before) ∙ (ap (λ (j : ℕ). before ++ places_from k j) (sym none) ∙ h)
