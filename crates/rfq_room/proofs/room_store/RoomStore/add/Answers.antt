use Rattle.std.proofs.Common.{◌≡◌, ◌∙◌, ap, sym, ◌++◌, List, map, arith}
use Rattle.std.proofs.lemmas.List.Elements.{filter_map-append}
use Rattle.venue_rules.specs.declared.facts.Fact.{Fact}
use Rattle.venue_rules.specs.declared.facts.Room.{Room}
use Rattle.venue_rules.specs.declared.facts.RoomQuote.{RoomQuote}
use Rattle.venue_rules.specs.Facts.{next_quote, quote_in, quotes, room_in, rooms}
use Rattle.rfq_room.specs.Openness.{open_room}
use Rattle.rfq_room.specs.Standing.{contents}
use Rattle.rfq_room.specs.Steps.{IsPlanOf}
use Rattle.rfq_room.proofs.Clearing.{below-next, from-next, live-added, next-added, open-added, plan-quotes, plan-rooms}
use Rattle.rfq_room.proofs.There.{plan-there}
use Rattle.rfq_room.proofs.room_store.RoomStore.add.Goals as goal

pub add-requires-clause-there : goal.add-requires-clause-there
add-requires-clause-there c =
    let from = contents c.self.inside in
    let made : IsPlanOf from c.args.facts.items = rw (← c.self.view_is) at c.requires in
    plan-there from c.args.facts.items c.self.invariant.room_numbers c.self.invariant.quote_numbers made

pub invariant_of-self : goal.invariant_of-self
invariant_of-self c =
    let old : List Fact = c.self.inside.known_flags.facts in
    let added : List Fact = c.args.facts.items in
    let made : IsPlanOf (contents c.self.inside) added = rw (← c.self.view_is) at c.requires in
    let next_rooms = plan-rooms (contents c.self.inside) added made in
    let next_quotes = plan-quotes (contents c.self.inside) added made in
    let facts : c.add.new.self.facts ≡ old ++ added = c.add.ensures.facts in
    let all_rooms : rooms (old ++ added) ≡ rooms old ++ rooms added = filter_map-append room_in old added in
    let all_quotes : quotes (old ++ added) ≡ quotes old ++ quotes added = filter_map-append quote_in old added in
    let opened = c.add_open.ensures ∙ ap (λ fs. c.self.inside.opened.items ++ map open_room (rooms fs)) c.deref.ensures.value in
    let live = c.add_quotes.ensures ∙ ap (λ fs. c.self.inside.live.items ++ quotes fs) c.deref-2.ensures.value in
    record {
      all_rooms = rw facts (c.add_rooms.ensures ∙ ap (λ rs. rs ++ rooms added) c.self.invariant.all_rooms ∙ sym all_rooms);
      all_quotes = rw facts (c.add_quotes-2.ensures ∙ ap (λ fs. c.self.inside.quotes.items ++ quotes fs) c.deref-3.ensures.value ∙ ap (λ qs. qs ++ quotes added) c.self.invariant.all_quotes ∙ sym all_quotes);
      room_numbers = rw facts (rw all_rooms (from-next (λ (r : Room). r.number) (rooms old) (rooms added) c.self.invariant.room_numbers next_rooms));
      quote_numbers = rw facts (rw all_quotes (from-next (λ (q : RoomQuote). q.number) (quotes old) (quotes added) c.self.invariant.quote_numbers next_quotes));
      still = λ t h. rw (facts, opened) (open-added old added t c.self.inside.opened.items (c.self.invariant.still t h));
      living = λ t h. rw (facts, live) (live-added old added t c.self.inside.live.items next_quotes c.self.invariant.quote_numbers c.self.invariant.below (c.self.invariant.living t h));
      below = rw (facts, live) (below-next (λ (q : RoomQuote). q.number) c.self.inside.live.items (quotes added) (next_quote old) (next_quote (old ++ added)) c.self.invariant.below next_quotes (omega (arith, next-added old added)));
      rooms_headroom = omega (arith, c.add_rooms.new.kept.ok);
      quotes_headroom = omega (arith, c.add_quotes-2.new.kept.ok);
      opened_headroom = omega (arith, c.add_open.new.rooms.ok);
      live_headroom = omega (arith, c.add_quotes.new.kept.ok);
      known_flags_headroom = omega arith;
    }
