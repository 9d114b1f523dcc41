use Rattle.std.proofs.Common.{ℕ, ◌<◌, ◌≤◌, length, subst}
use Rattle.page_text.specs.Parts.{with_parts}
use Rattle.day_tables.specs.Parts.{each_from}
use Rattle.day_sections.specs.People.{person_parts}
use Rattle.day_sections.proofs.Walks.{counts_on, counts_out}
use Rattle.day_sections.proofs.people.add_each.Goals as goal

pub loop-place-preserved : goal.loop-place-preserved
loop-place-preserved c =
    let k = c.args.kept.now in
    let n = length c.args.participants.now.names in
    counts_on (person_parts c.args.participants.now k.rows.now k.trades.now k.events.now k.rooms.now k.deeds.now) c.loop-place.place n c.loop-place.page c.add_person.new.page (with_parts c.args.page.now (each_from (person_parts c.args.participants.now k.rows.now k.trades.now k.events.now k.rooms.now k.deeds.now) 0 n))
    (subst (λ (m : ℕ). c.loop-place.place < m) c.len-place-end.ensures.count c.loop-place-test.true) c.in_ok-add_person.ensures c.loop-place.invariant

pub returns : goal.returns
returns c =
    let k = c.args.kept.now in
    let n = length c.args.participants.now.names in
    counts_out (person_parts c.args.participants.now k.rows.now k.trades.now k.events.now k.rooms.now k.deeds.now) c.loop-place.place n c.loop-place.page (with_parts c.args.page.now (each_from (person_parts c.args.participants.now k.rows.now k.trades.now k.events.now k.rooms.now k.deeds.now) 0 n))
    (subst (λ (m : ℕ). m ≤ c.loop-place.place) c.len-place-end.ensures.count c.loop-place-test.false) c.loop-place.invariant
