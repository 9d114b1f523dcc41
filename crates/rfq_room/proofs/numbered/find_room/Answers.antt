use Rattle.std.proofs.Common.{◌∙◌, sym, ◌≤◌, ◌+◌, ◌^◌, length, arith}
use Rattle.venue_rules.specs.declared.facts.Room.{Room}
use Rattle.rfq_room.proofs.Numbering.{printed-found, printed-none}
use Rattle.rfq_room.proofs.numbered.find_room.Goals as goal

pub returns-in_default : goal.returns-in_default
returns-in_default c =
    let few : 1 + length c.args.rooms.now ≤ 2 ^ 64 = omega (arith, c.count_rooms-count.ensures.value, c.count_rooms-count.ensures.bound) in
    sym (printed-none (λ (x : Room). x.number) 82 c.args.id.now c.args.rooms.now 1 (rw c.in_default.is at c.number_of.ensures) c.requires few)

pub returns : goal.returns
returns c =
    let few : 1 + length c.args.rooms.now ≤ 2 ^ 64 = omega (arith, c.count_rooms-count.ensures.value, c.count_rooms-count.ensures.bound) in
    c.room_by_number.ensures ∙ sym (printed-found (λ (x : Room). x.number) 82 c.in-Some.number c.args.id.now c.args.rooms.now 1 (rw c.in-Some.is at c.number_of.ensures).1 (rw c.in-Some.is at c.number_of.ensures).0 c.requires few)
