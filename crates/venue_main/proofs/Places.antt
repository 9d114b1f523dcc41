-- Who listens where, participant by participant.
use Rattle.std.proofs.Common.{◌≡◌, ℕ, zero, suc, ◌+◌, ◌<◌, ◌≤◌, List, [], ◌∷◌, ◌++◌, length, drop, slice_index_or, refl, sym, ap, ◌∙◌, arith, append_assoc, append-nil, add-one, add-suc}
use Rattle.std.proofs.lemmas.List.{drop_all}
use Rattle.venue_main.specs.Serve.{place_line, place_lines}

first : (names : List (List ℕ)) (port k : ℕ) → k < length names → place_lines port (drop k names) ≡ place_line (slice_index_or names k []) port ++ place_lines (suc port) (drop (suc k) names)
first [] port k low = absurd (omega (arith, low))
first (name ∷ names) port zero low = refl
first (name ∷ names) port (suc k) low = first names port k (omega (arith, low))

-- one more line is appended
pub places-more : (names : List (List ℕ)) (port k : ℕ) (old new whole : List ℕ) → k < length names → new ≡ old ++ place_line (slice_index_or names k []) (port + k)
    → old ++ place_lines (port + k) (drop k names) ≡ whole → new ++ place_lines (port + (k + 1)) (drop (k + 1) names) ≡ whole
places-more names port k old new whole low is before =
    let next : port + (k + 1) ≡ suc (port + k) = omega arith in
    ap (λ (l : List ℕ). l ++ place_lines (port + (k + 1)) (drop (k + 1) names)) is
    ∙ append_assoc old (place_line (slice_index_or names k []) (port + k)) (place_lines (port + (k + 1)) (drop (k + 1) names))
    ∙ ap (λ (p : ℕ). old ++ (place_line (slice_index_or names k []) (port + k) ++ place_lines p (drop (k + 1) names))) next
    ∙ ap (λ (n : ℕ). old ++ (place_line (slice_index_or names k []) (port + k) ++ place_lines (suc (port + k)) (drop n names))) (add-one k)
    ∙ ap (λ (l : List ℕ). old ++ l) (sym (first names (port + k) k low))
    ∙ before

-- each line is there
pub places-all : (names : List (List ℕ)) (port k : ℕ) (text whole : List ℕ) → length names ≤ k → text ++ place_lines port (drop k names) ≡ whole → text ≡ whole
places-all names port k text whole past is =
    sym (append-nil text) ∙ ap (λ (l : List (List ℕ)). text ++ place_lines port l) (sym (drop_all k names past)) ∙ is
