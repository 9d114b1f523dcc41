use Rattle.std.proofs.Common.{◌∙◌, ap, length, filter, List, arith}
use Rattle.venue_rules.specs.declared.facts.Fact.{Fact}
use Rattle.venue_rules.specs.Facts.{rooms}
use Rattle.venue_rules.specs.Rooms.{is_open}
use Rattle.rfq_room.specs.Openness.{is_still_open}
use Rattle.rfq_room.proofs.Clearing.{open-counted}
use Rattle.rfq_room.proofs.room_store.RoomStore.count_open.Goals as goal

pub returns-then-ms-self : goal.returns-then-ms-self
returns-then-ms-self c =
    let facts : List Fact = c.self.inside.known_flags.facts in
    rw (← c.self.view_is) (c.count_all_open.ensures ∙ ap (λ rs. length (filter (is_open facts c.args.moment) rs)) (c.deref.ensures.value ∙ c.self.invariant.all_rooms))

pub returns : goal.returns
returns c =
    let facts : List Fact = c.self.inside.known_flags.facts in
    rw (← c.self.view_is) (c.count_open.ensures ∙ ap (λ os. length (filter (is_still_open facts c.args.moment) os)) c.deref-2.ensures.value ∙ ap length (c.self.invariant.still c.args.moment (omega (arith, c.if-ms-self.false))) ∙ open-counted facts c.args.moment (rooms facts))
