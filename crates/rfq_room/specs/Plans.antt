use Rattle.std.specs.Prelude.{◌≡◌, ℕ, List, [], ◌∷◌, map, MatchOption, Some, None}
use Rattle.fix_dictionary.specs.declared.messages.QuoteRequest.{QuoteRequest}
use Rattle.fix_dictionary.specs.declared.messages.Quote.{Quote}
use Rattle.fix_dictionary.specs.declared.messages.QuoteResponse.{QuoteResponse}
use Rattle.venue_rules.specs.declared.facts.Fact.{Fact}
use Rattle.venue_rules.specs.declared.facts.Fact.TheVariants.{Asked, Quoted, Traded, Closed, Withdrawn}
use Rattle.venue_rules.specs.declared.facts.Room.{Room}
use Rattle.venue_rules.specs.declared.facts.RoomQuote.{RoomQuote}
use Rattle.venue_rules.specs.Market.{Market}
use Rattle.venue_rules.specs.Facts.{History}
use Rattle.venue_rules.specs.Answer.{Sender}
use Rattle.venue_rules.specs.Requests.{opened}
use Rattle.venue_rules.specs.Quotes.{quoted}
use Rattle.venue_rules.specs.Responses.{hit_trade}
use Rattle.venue_rules.specs.Rooms.{find_quote, find_room}
use Rattle.rfq_room.specs.Named.{quote_room}
use Rattle.rfq_room.specs.declared.decision.Hit.{Hit}
use Rattle.rfq_room.specs.declared.decision.Decision.{Decision}
use Rattle.rfq_room.specs.declared.decision.Decision.TheVariants.{Refuse, Pass, Trade}
use Rattle.rfq_room.specs.Plan.{Plan}

-- here the rules read facts of a history and the place of a sender alone
abbrev pub history : List Fact → History
history facts = record { facts = facts; reports = 0 }

abbrev pub sender : ℕ → Sender
sender who = record { who = who; number = 0; kind = [] }

-- the room that a request opens, and the quote of a message in a room
abbrev pub room_asked : Market → List Fact → ℕ → QuoteRequest → ℕ → Room
room_asked m facts who d t = opened m (history facts) (sender who) d t

abbrev pub quote_made : List Fact → ℕ → Room → Quote → RoomQuote
quote_made facts who r d = quoted (history facts) (sender who) r d

abbrev pub withdrawn : RoomQuote → Fact
withdrawn q = Withdrawn (record { quote = q.number })

-- a plan that changes nothing
abbrev pub no_plan : Plan
no_plan = record { facts = []; quotes = []; hit = None }

abbrev pub request_plan : Room → Plan
request_plan r = record { facts = Asked r ∷ []; quotes = []; hit = None }

abbrev pub quote_plan : RoomQuote → Plan
quote_plan q = record { facts = Quoted q ∷ []; quotes = []; hit = None }

abbrev pub withdrawal_plan : List RoomQuote → Plan
withdrawal_plan qs = record { facts = map withdrawn qs; quotes = qs; hit = None }

-- the plan of a quote in the room that it names
abbrev pub IsQuotePlanned : List Fact → ℕ → Quote → Plan → Type 0
IsQuotePlanned facts who d p = MatchOption (find_room facts d.request_id) ⊥ (λ r. p ≡ quote_plan (quote_made facts who r d))

-- the plan of a pass, and of a hit
abbrev pub pass_plan : RoomQuote → Plan
pass_plan q = record { facts = withdrawn q ∷ []; quotes = []; hit = None }

abbrev pub hit_plan : ℕ → ℕ → RoomQuote → Room → Hit → Plan
hit_plan who t q r hit = record { facts = Traded (hit_trade (sender who) r q hit.side hit.price t) ∷ Closed (record { room = r.number }) ∷ []; quotes = []; hit = Some hit }

-- the plan of a response to a quote in a room, by the decision
abbrev pub IsResponsePlan : ℕ → ℕ → RoomQuote → Room → Decision → Plan → Type 0
IsResponsePlan who t q r (Refuse cause) p = ⊥
IsResponsePlan who t q r Pass p = p ≡ pass_plan q
IsResponsePlan who t q r (Trade hit) p = p ≡ hit_plan who t q r hit

-- the plan of a response to the quote that it names, in that quote's room
abbrev pub IsResponsePlanned : List Fact → ℕ → QuoteResponse → ℕ → Decision → Plan → Type 0
IsResponsePlanned facts who d t decision p = MatchOption (find_quote facts d.quote_id) ⊥ (λ q. MatchOption (quote_room facts d.quote_id) ⊥ (λ r. IsResponsePlan who t q r decision p))
