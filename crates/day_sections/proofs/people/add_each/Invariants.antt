use Rattle.std.proofs.Common.{◌≡◌, ◌-◌, length}
use Rattle.page_text.specs.Parts.{with_parts}
use Rattle.day_tables.specs.Parts.{each_from}
use Rattle.day_sections.specs.People.{person_parts}
use Rattle.day_sections.proofs.people.add_each.Given as goal

-- the parts so far, and then those of the others, are all
abbrev pub invariant-loop-place : goal.invariant-loop-place
invariant-loop-place l = with_parts l.page (each_from (person_parts l.participants l.kept.rows.now l.kept.trades.now l.kept.events.now l.kept.rooms.now l.kept.deeds.now) l.place (length l.participants.names - l.place)) ≡ with_parts l.fn.page (each_from (person_parts l.participants l.kept.rows.now l.kept.trades.now l.kept.events.now l.kept.rooms.now l.kept.deeds.now) 0 (length l.participants.names))
