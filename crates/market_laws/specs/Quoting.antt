use Rattle.std.specs.Prelude.{◌≡◌, ◌⊎◌, ℕ, ◌≤◌, min, true, false, int_le, ℤ, List, [], ◌∷◌, ◌++◌, Contains, Option, Some, None, unwrap_or, length}
use Rattle.fix_dictionary.specs.declared.messages.App.TheVariants as app
use Rattle.fix_dictionary.specs.declared.messages.Quote.{Quote}
use Rattle.fix_dictionary.specs.declared.values.Side.{Side}
use Rattle.fix_dictionary.specs.declared.values.Side.TheVariants.{Buy, Sell}
use Rattle.venue_rules.specs.declared.facts.Fact.{Fact}
use Rattle.venue_rules.specs.declared.facts.Fact.TheVariants.{Asked, Quoted}
use Rattle.venue_rules.specs.declared.facts.Room.{Room}
use Rattle.venue_rules.specs.declared.facts.RoomQuote.{RoomQuote}
use Rattle.venue_rules.specs.declared.replies.Reply.{Reply}
use Rattle.venue_rules.specs.declared.replies.ReplyBody.TheVariants.{QuoteSent}
use Rattle.venue_rules.specs.declared.trail.Taken.{Taken}
use Rattle.participants.specs.Relations.{name_of}
use Rattle.instruments.specs.Listing.{is_off_tick, symbol_of}
use Rattle.venue_rules.specs.Market.{Market}
use Rattle.venue_rules.specs.Rooms.{find_room, is_open}
use Rattle.venue_rules.specs.Answer.{Answer, reply}
use Rattle.venue_rules.specs.MoreInputs.{answer_after}
use Rattle.venue_rules.specs.Run.{Input, Message, run}

-- Quotes of the recipients of a request.

-- what a buyer needs is an offer, what a seller needs a bid, and whoever may do either needs one of them
abbrev pub HasPriceFor : Option Side → Quote → Type 0
HasPriceFor (Some Buy) d = (p : ℤ) × (d.offer_price ≡ Some p)
HasPriceFor (Some Sell) d = (p : ℤ) × (d.bid_price ≡ Some p)
HasPriceFor None d = ((p : ℤ) × (d.bid_price ≡ Some p)) ⊎ ((p : ℤ) × (d.offer_price ≡ Some p))

-- a stated price is a multiple of the tick
abbrev pub IsOnTick : Market → ℕ → Option ℤ → Type 0
IsOnTick m x price = (p : ℤ) → price ≡ Some p → is_off_tick m.instruments x p ≡ false

-- a stated number is this one
abbrev pub IsIfStated : Option ℕ → ℕ → Type 0
IsIfStated stated n = (k : ℕ) → stated ≡ Some k → k ≡ n

-- the identifier is new to its maker
abbrev pub IsNewQuote : List Fact → ℕ → List ℕ → Type 0
IsNewQuote facts maker id = (q : RoomQuote) → Contains facts (Quoted q) → q.maker ≡ maker → q.id ≡ id → ⊥

-- a quote of this maker answers a request that is open at this moment: the maker was asked, and quotes what was asked
-- for, on the tick, not crossed, of no other quantity, not past its own end, under an identifier new to it
pub record IsValidQuote (m : Market) (facts : List Fact) (maker : ℕ) (d : Quote) (t : ℕ) (asked : Room) : Type 0 where
  pub names : find_room facts d.request_id ≡ Some asked
  pub recipient : Contains asked.recipients maker
  pub still_open : is_open facts t asked ≡ true
  pub symbol : d.symbol ≡ symbol_of m.instruments asked.instrument
  pub new_id : IsNewQuote facts maker d.quote_id
  pub tradeable : IsIfStated d.quote_type 49
  pub priced : HasPriceFor asked.side d
  pub bid_on_tick : IsOnTick m asked.instrument d.bid_price
  pub offer_on_tick : IsOnTick m asked.instrument d.offer_price
  pub uncrossed : (bid offer : ℤ) → d.bid_price ≡ Some bid → d.offer_price ≡ Some offer → int_le bid offer ≡ true
  pub bid_size : IsIfStated d.bid_size asked.quantity
  pub offer_size : IsIfStated d.offer_size asked.quantity
  pub lasts : (end : ℕ) → d.valid_until ≡ Some end → t ≤ end

-- the quote, as sent on to the requester: its prices and its end
abbrev pub sent_on : Market → Room → RoomQuote → Reply
sent_on m asked q = reply asked.requester (QuoteSent (record { quote = q.number; request_id = asked.id; maker = name_of m.participants q.maker; symbol = symbol_of m.instruments asked.instrument; bid = q.bid; offer = q.offer; quantity = asked.quantity; end = q.end }))

-- the answer takes the quote as it was made, until its end or the request's, and sends it on
pub record IsTaken (m : Market) (who : ℕ) (d : Quote) (asked : Room) (x : Answer) : Type 0 where
  pub quote : RoomQuote
  pub facts : x.facts ≡ Quoted quote ∷ []
  pub room : quote.room ≡ asked.number
  pub maker : quote.maker ≡ who
  pub id : quote.id ≡ d.quote_id
  pub bid : quote.bid ≡ d.bid_price
  pub offer : quote.offer ≡ d.offer_price
  pub end : quote.end ≡ min (unwrap_or d.valid_until asked.end) asked.end
  pub sent : Contains x.replies (sent_on m asked quote)

-- a valid quote is taken, whoever of the recipients makes it (17 CFR 37.9(a)(3)(iii))
abbrev pub ValidQuotesAreTaken : Market → List Input → Type 0
ValidQuotesAreTaken m is =
    (taken : Taken) (d : Quote) (t : ℕ) (asked : Room) → taken.item.app ≡ app.Quote d → IsValidQuote m (run m is).history.facts taken.from d t asked → IsTaken m taken.from d asked (answer_after m is (Message taken t))

-- of two recipients who send the same quote at the same moment, under an identifier new to both, both are taken or
-- neither is (17 CFR 37.9(a)(3)(iii))
abbrev pub RecipientsAreEqual : Market → List Input → Type 0
RecipientsAreEqual m is =
    (one other : Taken) (d : Quote) (t : ℕ) (asked : Room) → one.item.app ≡ app.Quote d → other.item.app ≡ app.Quote d → find_room (run m is).history.facts d.request_id ≡ Some asked
    → Contains asked.recipients one.from → Contains asked.recipients other.from → IsNewQuote (run m is).history.facts one.from d.quote_id → IsNewQuote (run m is).history.facts other.from d.quote_id
    → length (answer_after m is (Message one t)).facts ≡ length (answer_after m is (Message other t)).facts

-- a recorded quote is one that a recipient sent, and was sent on to the requester in that answer
pub record IsSentOn (m : Market) (is : List Input) (q : RoomQuote) : Type 0 where
  pub asked : Room
  pub known : Contains (run m is).history.facts (Asked asked)
  pub room : asked.number ≡ q.room
  pub recipient : Contains asked.recipients q.maker
  pub within : q.end ≤ asked.end
  pub earlier : List Input
  pub taken : Taken
  pub moment : ℕ
  pub later : List Input
  pub message : Quote
  pub split : is ≡ earlier ++ (Message taken moment ∷ later)
  pub quoted : taken.item.app ≡ app.Quote message
  pub maker : taken.from ≡ q.maker
  pub bid : q.bid ≡ message.bid_price
  pub offer : q.offer ≡ message.offer_price
  pub sent : Contains (answer_after m earlier (Message taken moment)).replies (sent_on m asked q)

-- so it is of each quote that is recorded (17 CFR 37.9(a)(3)(iii))
abbrev pub QuotesAreSentOn : Market → List Input → Type 0
QuotesAreSentOn m is = (q : RoomQuote) → Contains (run m is).history.facts (Quoted q) → IsSentOn m is q
