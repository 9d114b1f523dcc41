-- When two lists of rows are the same.
use Rattle.std.proofs.Common.{◌≡◌, ℕ, ◌≤◌, ◌==◌, List, length, max, take, sym, ap, ◌∙◌, arith}
use Rattle.std.specs.Prelude.{Decides}
use Rattle.std.proofs.lemmas.Bool.Decides.{Decides-eqb, Decides-like}
use Rattle.std.proofs.lemmas.List.{take_all}
use Rattle.venue_rules.specs.declared.trail.TrailRow.{TrailRow}
use Rattle.trail_digest.specs.Comparison.{AreShared}

whole : (xs ys : List TrailRow) (k : ℕ) → AreShared xs ys k → k ≡ max (length xs) (length ys) → xs ≡ ys
whole xs ys k h e =
    let within : k ≤ length xs = h.within in
    let within_other : k ≤ length ys = h.within_other in
    let all : length xs ≤ k = omega arith in
    let all_other : length ys ≤ k = omega arith in
    sym (take_all k xs all) ∙ h.same ∙ take_all k ys all_other

length_of_same : (xs ys : List TrailRow) (k : ℕ) → AreShared xs ys k → xs ≡ ys → k ≡ max (length xs) (length ys)
length_of_same xs ys k h e =
    let within : k ≤ length xs = h.within in
    let same_length : length xs ≡ length ys = ap length e in
    let longest : length xs ≤ k = h.longest (length xs) (omega arith) (omega arith) (ap (take (length xs)) e) in
    omega arith

pub rows_decided : (xs ys : List TrailRow) (k : ℕ) → AreShared xs ys k → Decides (k == max (length xs) (length ys)) (xs ≡ ys)
rows_decided xs ys k h = Decides-like (k == max (length xs) (length ys)) (whole xs ys k h) (length_of_same xs ys k h) (Decides-eqb k (max (length xs) (length ys)))
