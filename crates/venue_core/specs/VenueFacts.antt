use Rattle.std.specs.Prelude.{◌≡◌}
use Rattle.venue_rules.specs.Facts.{History}
use Rattle.venue_rules.specs.Readings.{trade_facts}
use Rattle.venue_rules.specs.Answer.{Answer}
use Rattle.venue_rules.specs.Run.{Input, after, answer_input}
use Rattle.price_book.specs.BookFacts.{book_facts}
use Rattle.rfq_room.specs.RoomFacts.{room_facts}
use Rattle.cross_delay.specs.DelayFacts.{delay_facts}
use Rattle.trade_history.specs.ReadOf.{IsReadOf}
use Rattle.venue_core.specs.State.{VenueFacts, State, standing}

-- the facts of the book, of the rooms and of the held sides of a history, its count of reports, and the readings of its
-- trades and of its rooms with a quote
pub record IsStanding (p : VenueFacts) (h : History) : Type 0 where
  pub book : book_facts h.facts ≡ p.book
  pub rooms : room_facts h.facts ≡ p.rooms
  pub delay : delay_facts h.facts ≡ p.delay
  pub reports : h.reports ≡ p.reports
  pub trades : trade_facts h.facts ≡ p.trades
  pub quoted : IsReadOf p.quoted h.facts

-- this is a history of the venue's state
abbrev pub IsHistory : State → History → Type 0
IsHistory s h = IsStanding (standing s.day) h

-- this is the rules' answer to the input, in every history of the venue's state
abbrev pub IsAnswer : State → Input → Answer → Type 0
IsAnswer s i a = (h : History) → IsHistory s h → a ≡ answer_input s.market h i

-- every history of the state, extended by the answer, is one of the state afterwards
abbrev pub IsAfter : State → Answer → State → Type 0
IsAfter s a s' = (h : History) → IsHistory s h → IsHistory s' (after h a)
