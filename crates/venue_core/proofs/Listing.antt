use Rattle.std.proofs.Common.{◌≡◌, sym, ap, ◌∙◌, subst, Bool, true, List, ◌++◌, length}
use Rattle.std.specs.List.{list_all}
use Rattle.venue_rules.specs.declared.facts.Fact.{Fact}
use Rattle.venue_rules.specs.Market.{Market}
use Rattle.rfq_room.specs.RoomStore.{is_listed as is_room_listed}
use Rattle.rfq_handler.specs.Known.{is_known}
use Rattle.order_handler.specs.Made.{is_listed}
use Rattle.venue_core.specs.declared.venue_state.VenueState.{VenueState}
use Rattle.venue_core.specs.declared.plan.Part.{Part}
use Rattle.venue_core.specs.declared.plan.Part.TheVariants.{OfOrders, OfRooms}
use Rattle.venue_core.specs.State.{VenueFacts, standing}
use Rattle.trade_history.specs.Numbered.{AreNumbered}
use Rattle.venue_core.specs.Plan.{IsAddedTo, IsListed, IsMade, with_part}
use Rattle.venue_core.proofs.Parting.{both-all}

-- a plan that may be made may be added
pub made-added : (m : Market) (d : VenueState) (p : Part) → IsMade m d p → IsAddedTo d p
made-added m d (OfOrders a) made = (made.fit.book_plan, made.fit.delay_plan, made.trades)
made-added m d (OfRooms a read) made = (made.fit.plan, made.trades, made.fit.read)

passes : (p : Fact → Bool) (fs gs : List Fact) → fs ≡ gs → list_all p gs ≡ true → list_all p fs ≡ true
passes p fs gs e h = ap (λ xs. list_all p xs) e ∙ h

-- the additions keep to listed instruments and known participants
pub still-listed : (m : Market) (d d' : VenueState) (p : Part) → standing d' ≡ with_part (standing d) p → AreNumbered d'.rooms.facts → IsMade m d p → IsListed m d → IsListed m d'
still-listed m d d' (OfOrders a) e n made l = record {
  book = passes (is_listed (length m.instruments)) d'.book.facts (d.book.facts ++ a.book) (ap (λ (s : VenueFacts). s.book) e) (both-all (is_listed (length m.instruments)) d.book.facts a.book l.book made.fit.book_listed);
  delay = passes (is_listed (length m.instruments)) d'.held.facts (d.held.facts ++ a.delay) (ap (λ (s : VenueFacts). s.delay) e) (both-all (is_listed (length m.instruments)) d.held.facts a.delay l.delay made.fit.delay_listed);
  rooms = passes (is_room_listed (length m.instruments)) d'.rooms.facts d.rooms.facts (ap (λ (s : VenueFacts). s.rooms) e) l.rooms;
  known = passes (is_known (length m.participants.names)) d'.rooms.facts d.rooms.facts (ap (λ (s : VenueFacts). s.rooms) e) l.known;
  numbered = n;
}
still-listed m d d' (OfRooms a read) e n made l = record {
  book = passes (is_listed (length m.instruments)) d'.book.facts d.book.facts (ap (λ (s : VenueFacts). s.book) e) l.book;
  delay = passes (is_listed (length m.instruments)) d'.held.facts d.held.facts (ap (λ (s : VenueFacts). s.delay) e) l.delay;
  rooms = passes (is_room_listed (length m.instruments)) d'.rooms.facts (d.rooms.facts ++ a.facts) (ap (λ (s : VenueFacts). s.rooms) e) (both-all (is_room_listed (length m.instruments)) d.rooms.facts a.facts l.rooms made.fit.listed);
  known = passes (is_known (length m.participants.names)) d'.rooms.facts (d.rooms.facts ++ a.facts) (ap (λ (s : VenueFacts). s.rooms) e) (both-all (is_known (length m.participants.names)) d.rooms.facts a.facts l.known made.fit.known);
  numbered = n;
}

-- and so does other spare capacity
pub same-listed : (m : Market) (d d' : VenueState) → standing d' ≡ standing d → IsListed m d → IsListed m d'
same-listed m d d' e l = record {
  book = passes (is_listed (length m.instruments)) d'.book.facts d.book.facts (ap (λ (s : VenueFacts). s.book) e) l.book;
  delay = passes (is_listed (length m.instruments)) d'.held.facts d.held.facts (ap (λ (s : VenueFacts). s.delay) e) l.delay;
  rooms = passes (is_room_listed (length m.instruments)) d'.rooms.facts d.rooms.facts (ap (λ (s : VenueFacts). s.rooms) e) l.rooms;
  known = passes (is_known (length m.participants.names)) d'.rooms.facts d.rooms.facts (ap (λ (s : VenueFacts). s.rooms) e) l.known;
  numbered = subst AreNumbered (sym (ap (λ (s : VenueFacts). s.rooms) e)) l.numbered;
}
