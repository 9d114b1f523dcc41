use Rattle.std.proofs.Common.{take}
use Rattle.day_sections.specs.Numbers.{AreNumbers}
use Rattle.day_sections.proofs.numbers.numbers_of.Given as goal

-- whom the events so far are of
abbrev pub invariant-loop-event : goal.invariant-loop-event
invariant-loop-event l = AreNumbers (take l.event-index l.events) l.numbers
