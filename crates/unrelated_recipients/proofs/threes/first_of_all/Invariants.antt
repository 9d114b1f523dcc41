use Rattle.std.proofs.Common.{◌≡◌, drop}
use Rattle.std.specs.List.{find, flat_map}
use Rattle.unrelated_recipients.specs.Threes.{is_unrelated, threes_of_one}
use Rattle.unrelated_recipients.proofs.threes.first_of_all.Given as goal

abbrev pub invariant-loop-first : goal.invariant-loop-first
invariant-loop-first l =
    find (is_unrelated l.participants l.requester) (flat_map (λ a. threes_of_one a l.recipients) (drop l.first-index l.recipients))
    ≡ find (is_unrelated l.participants l.requester) (flat_map (λ a. threes_of_one a l.recipients) l.recipients)
