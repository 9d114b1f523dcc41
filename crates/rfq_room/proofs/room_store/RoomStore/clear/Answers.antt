use Rattle.std.proofs.Common.{◌∙◌, List, arith}
use Rattle.venue_rules.specs.declared.facts.Fact.{Fact}
use Rattle.venue_rules.specs.Rooms.{is_live}
use Rattle.rfq_room.specs.Openness.{is_still_open}
use Rattle.rfq_room.proofs.Clearing.{filter-all, live-earlier, open-earlier, twice}
use Rattle.rfq_room.proofs.room_store.RoomStore.clear.Goals as goal

pub invariant_of-self : goal.invariant_of-self
invariant_of-self c =
    let facts : List Fact = c.self.inside.known_flags.facts in
    let m = c.args.moment in
    record {
      all_rooms = c.self.invariant.all_rooms;
      all_quotes = c.self.invariant.all_quotes;
      room_numbers = c.self.invariant.room_numbers;
      quote_numbers = c.self.invariant.quote_numbers;
      still = λ t h. rw c.clear_open.ensures.items (twice (is_still_open facts m) (is_still_open facts t) (λ o. open-earlier facts m t o (omega (arith, h))) c.self.inside.opened.items ∙ c.self.invariant.still t (omega (arith, h)));
      living = λ t h. rw c.clear_live.ensures.items (twice (is_live facts m) (is_live facts t) (λ q. live-earlier facts m t q (omega (arith, h))) c.self.inside.live.items ∙ c.self.invariant.living t (omega (arith, h)));
      below = rw c.clear_live.ensures.items (filter-all (is_live facts m) _ c.self.inside.live.items c.self.invariant.below);
      rooms_headroom = c.self.invariant.rooms_headroom;
      quotes_headroom = c.self.invariant.quotes_headroom;
      opened_headroom = omega (arith, c.clear_open.ensures.len, c.clear_open.ensures.capacity, c.self.invariant.opened_headroom);
      live_headroom = omega (arith, c.clear_live.ensures.len, c.clear_live.ensures.capacity, c.self.invariant.live_headroom);
      known_flags_headroom = c.self.invariant.known_flags_headroom;
    }
