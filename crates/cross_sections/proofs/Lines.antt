-- A line, part by part.
use Rattle.std.proofs.Common.{◌≡◌, ℕ, List, [], ◌∷◌, ◌++◌, ap, ◌∙◌}
use Rattle.page_text.specs.Parts.{Part, with_part, with_parts}
use Rattle.day_sections.proofs.Walks.{in_turn}

pub line_is : (page one two three four five six last : List ℕ) (a b c d e : Part) (ps qs : List Part)
    → one ≡ with_part page a → two ≡ with_part one b → three ≡ with_parts two ps → four ≡ with_part three c → five ≡ with_part four d → six ≡ with_parts five qs → last ≡ with_part six e
    → last ≡ with_parts page (a ∷ b ∷ (ps ++ (c ∷ d ∷ (qs ++ e ∷ []))))
line_is page one two three four five six last a b c d e ps qs h1 h2 h3 h4 h5 h6 h7 =
    let tail = qs ++ e ∷ [] in
    let from_five : last ≡ with_parts five tail = in_turn five six last qs (e ∷ []) h6 h7 in
    let from_three : last ≡ with_parts three (c ∷ d ∷ tail) = from_five ∙ ap (λ (x : List ℕ). with_parts x tail) (h5 ∙ ap (λ (x : List ℕ). with_part x d) h4) in
    let from_two : last ≡ with_parts two (ps ++ (c ∷ d ∷ tail)) = in_turn two three last ps (c ∷ d ∷ tail) h3 from_three in
    from_two ∙ ap (λ (x : List ℕ). with_parts x (ps ++ (c ∷ d ∷ tail))) (h2 ∙ ap (λ (x : List ℕ). with_part x b) h1)
