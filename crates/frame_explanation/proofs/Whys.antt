-- Why what begins as a frame is none.
use Rattle.std.proofs.Common.{◌≡◌, ℕ, ◌-◌, List, Bool, true, Option, Some, length, take, drop, codes, refl, sym, ap, ◌∙◌}
use Rattle.std.specs.Prelude.{◌==◌}
use Rattle.std.specs.List.{list_any}
use Rattle.std.proofs.lemmas.List.{take_rest}
use Rattle.frame_explanation.specs.Broken.{behind_body, body_in, to_trailer, why_behind, why_body, why_of}
use Rattle.fix_pieces.specs.Pieces.{first_value}

by_cases : (digits sum body rest : List ℕ) (found : Option (List ℕ)) → found ≡ Some sum → list_any (λ b. b == 1) rest ≡ true → why_body digits sum body ≡ why_of digits body found rest
by_cases digits sum body rest found f soh = rw (f, soh) refl

-- a CheckSum is there, and ended
pub why_ended : (digits rest sum : List ℕ) (n : ℕ) → n ≡ to_trailer true rest → first_value (codes "10=") rest ≡ Some sum → true ≡ list_any (λ b. b == 1) (take (length rest - n) (drop n rest))
    → why_body digits sum (take n rest) ≡ why_behind digits rest
why_ended digits rest sum n e f soh =
    let whole : list_any (λ b. b == 1) (behind_body rest) ≡ true =
    ap (λ (k : ℕ). list_any (λ b. b == 1) (drop k rest)) (sym e) ∙ ap (λ (l : List ℕ). list_any (λ b. b == 1) l) (sym (take_rest rest n)) ∙ sym soh in
    ap (λ (k : ℕ). why_body digits sum (take k rest)) e ∙ by_cases digits sum (body_in rest) (behind_body rest) (first_value (codes "10=") rest) f whole
