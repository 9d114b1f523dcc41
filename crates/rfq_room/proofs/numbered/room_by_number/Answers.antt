use Rattle.std.proofs.Common.{◌∙◌, ap, sym, ℕ, ◌<◌, ◌-◌, ◌==◌, find, arith}
use Rattle.venue_rules.specs.declared.facts.Room.{Room}
use Rattle.rfq_room.proofs.Numbering.{got, none-below, placed}
use Rattle.rfq_room.proofs.numbered.room_by_number.Goals as goal

pub returns-then-number-eq0 : goal.returns-then-number-eq0
returns-then-number-eq0 c = sym (ap (λ (n : ℕ). find (λ (x : Room). x.number == n) c.args.rooms.now) c.if-number-eq0.true ∙ none-below (λ (x : Room). x.number) c.args.rooms.now 0 c.requires)

pub returns : goal.returns
returns c =
    let more : 0 < c.args.number = omega (arith, c.if-number-eq0.false) in
    got c.args.rooms.now (c.args.number - 1) c.get.result c.get.ensures.lookup ∙ sym (placed (λ (x : Room). x.number) c.args.rooms.now c.args.number c.requires more)
