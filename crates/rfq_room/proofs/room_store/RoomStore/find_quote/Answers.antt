use Rattle.std.proofs.Common.{◌∙◌, ap, find, bytes_eq}
use Rattle.venue_rules.specs.declared.facts.RoomQuote.{RoomQuote}
use Rattle.venue_rules.specs.Rooms.{printed}
use Rattle.rfq_room.proofs.room_store.RoomStore.find_quote.Goals as goal

pub find_quote-requires : goal.find_quote-requires
find_quote-requires c = rw (c.deref.ensures.value, c.self.invariant.all_quotes) c.self.invariant.quote_numbers

pub returns : goal.returns
returns c = rw (← c.self.view_is) (c.find_quote.ensures ∙ ap (find (λ (x : RoomQuote). bytes_eq (printed 81 x.number) c.args.id.now)) (c.deref.ensures.value ∙ c.self.invariant.all_quotes))
