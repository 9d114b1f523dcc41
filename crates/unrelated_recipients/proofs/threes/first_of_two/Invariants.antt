use Rattle.std.proofs.Common.{◌≡◌, drop}
use Rattle.std.specs.List.{find}
use Rattle.unrelated_recipients.specs.Threes.{is_unrelated, threes_of_two}
use Rattle.unrelated_recipients.proofs.threes.first_of_two.Given as goal

abbrev pub invariant-loop-third : goal.invariant-loop-third
invariant-loop-third l =
    find (is_unrelated l.participants l.requester) (threes_of_two l.first l.second (drop l.third-index l.recipients))
    ≡ find (is_unrelated l.participants l.requester) (threes_of_two l.first l.second l.recipients)
