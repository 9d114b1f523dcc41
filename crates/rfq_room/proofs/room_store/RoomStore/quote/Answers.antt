use Rattle.std.proofs.Common.{◌∙◌, ap, find, ◌==◌}
use Rattle.venue_rules.specs.declared.facts.RoomQuote.{RoomQuote}
use Rattle.rfq_room.proofs.room_store.RoomStore.quote.Goals as goal

pub quote_by_number-requires : goal.quote_by_number-requires
quote_by_number-requires c = rw (c.deref.ensures.value, c.self.invariant.all_quotes) c.self.invariant.quote_numbers

pub returns : goal.returns
returns c = rw (← c.self.view_is) (c.quote_by_number.ensures ∙ ap (find (λ (x : RoomQuote). x.number == c.args.number)) (c.deref.ensures.value ∙ c.self.invariant.all_quotes))
