use Rattle.std.proofs.Common.{◌≡◌, ◌++◌, drop}
use Rattle.unrelated_recipients.specs.Pairs.{pairs_of_one}
use Rattle.unrelated_recipients.proofs.pairs.append_pairs.Given as goal

abbrev pub invariant-loop-other : goal.invariant-loop-other
invariant-loop-other l =
    l.pairs.items ++ pairs_of_one l.participants l.one (drop l.other-index l.others) ≡ l.fn.pairs.items ++ pairs_of_one l.participants l.one l.others
