use Rattle.std.proofs.Common.{◌≡◌, map, take}
use Rattle.rfq_room.specs.Plans.{withdrawn}
use Rattle.rfq_room.proofs.withdrawing.all_withdrawn.Given as goal

abbrev pub invariant-loop-quote : goal.invariant-loop-quote
invariant-loop-quote l = l.facts.items ≡ map withdrawn (take l.quote-index l.quotes)
