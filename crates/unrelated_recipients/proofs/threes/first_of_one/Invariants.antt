use Rattle.std.proofs.Common.{◌≡◌, drop}
use Rattle.std.specs.List.{find, flat_map}
use Rattle.unrelated_recipients.specs.Threes.{is_unrelated, threes_of_two}
use Rattle.unrelated_recipients.proofs.threes.first_of_one.Given as goal

abbrev pub invariant-loop-second : goal.invariant-loop-second
invariant-loop-second l =
    find (is_unrelated l.participants l.requester) (flat_map (λ b. threes_of_two l.first b l.recipients) (drop l.second-index l.recipients))
    ≡ find (is_unrelated l.participants l.requester) (flat_map (λ b. threes_of_two l.first b l.recipients) l.recipients)
