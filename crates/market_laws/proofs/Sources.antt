use Rattle.std.proofs.Common.{◌≡◌, refl, subst, inl, inr, ℕ, List, [], ◌∷◌, ◌++◌, map}
use Rattle.fix_dictionary.specs.declared.messages.App.TheVariants.{QuoteRequest, Quote}
use Rattle.fix_dictionary.specs.declared.messages.QuoteRequest.{QuoteRequest as RequestMessage}
use Rattle.fix_dictionary.specs.declared.messages.Quote.{Quote as QuoteMessage}
use Rattle.venue_rules.specs.declared.facts.Fact.{Fact}
use Rattle.venue_rules.specs.declared.facts.Fact.TheVariants.{Entered, Traded, Removed, Held, Unheld, Asked, Quoted, Withdrawn, Closed}
use Rattle.venue_rules.specs.declared.facts.Entry.{Entry}
use Rattle.venue_rules.specs.declared.facts.Trade.{Trade}
use Rattle.venue_rules.specs.declared.facts.TradeSource.TheVariants.{Book as InBook}
use Rattle.venue_rules.specs.declared.facts.Room.{Room}
use Rattle.venue_rules.specs.declared.facts.RoomQuote.{RoomQuote}
use Rattle.venue_rules.specs.declared.replies.Reply.{Reply}
use Rattle.venue_rules.specs.declared.trail.Taken.{Taken}
use Rattle.venue_rules.specs.Market.{Market}
use Rattle.venue_rules.specs.Facts.{History, rooms}
use Rattle.venue_rules.specs.Book.{Fill, fills}
use Rattle.venue_rules.specs.Entering.{trade_of, entry_facts}
use Rattle.venue_rules.specs.Requests.{opened}
use Rattle.venue_rules.specs.Quotes.{quoted, quote_sent}
use Rattle.venue_rules.specs.Answer.{Answer, Sender}
use Rattle.venue_rules.specs.Run.{Input, Message}
use Rattle.venue_rules.proofs.Members.{In}

-- The circumstances of each fact that an answer adds.

-- a trade in the book is of a fill of an order that entered in the same answer
pub record BookTradeFrom (h : History) (all : List Fact) (t : Trade) (old new : ℕ) : Type 0 where
  pub entry : Entry
  pub fill : Fill
  pub entered : In (Entered entry) all
  pub filled : In fill (fills h.facts entry.order)
  pub same : t ≡ trade_of entry fill
  pub old_number : fill.resting.entry.number ≡ old
  pub new_number : entry.number ≡ new

-- a request is opened by a message
pub record RoomFrom (m : Market) (h : History) (i : Input) (r : Room) : Type 0 where
  pub taken : Taken
  pub moment : ℕ
  pub sender : Sender
  pub asks : RequestMessage
  pub input : i ≡ Message taken moment
  pub message : taken.item.app ≡ QuoteRequest asks
  pub same : r ≡ opened m h sender asks moment

-- a quote comes by a message from a recipient of an earlier request, and is sent on in the same answer
pub record QuoteFrom (m : Market) (h : History) (i : Input) (replies : List Reply) (q : RoomQuote) : Type 0 where
  pub taken : Taken
  pub moment : ℕ
  pub sender : Sender
  pub quotes : QuoteMessage
  pub asked : Room
  pub input : i ≡ Message taken moment
  pub message : taken.item.app ≡ Quote quotes
  pub from : sender.who ≡ taken.from
  pub known : In asked (rooms h.facts)
  pub recipient : In sender.who asked.recipients
  pub same : q ≡ quoted h sender asked quotes
  pub sent_on : In (quote_sent m asked q) replies

abbrev pub FactFrom : Market → History → Input → List Fact → List Reply → Fact → Type 0
FactFrom m h i all replies (Traded t) = (old new : ℕ) → t.place ≡ InBook old new → BookTradeFrom h all t old new
FactFrom m h i all replies (Asked r) = RoomFrom m h i r
FactFrom m h i all replies (Quoted q) = QuoteFrom m h i replies q
FactFrom m h i all replies (Entered e) = Unit {0}
FactFrom m h i all replies (Removed r) = Unit {0}
FactFrom m h i all replies (Held k) = Unit {0}
FactFrom m h i all replies (Unheld u) = Unit {0}
FactFrom m h i all replies (Withdrawn w) = Unit {0}
FactFrom m h i all replies (Closed c) = Unit {0}

abbrev pub EachFrom : Market → History → Input → List Fact → List Reply → List Fact → Type 0
EachFrom m h i all replies [] = Unit {0}
EachFrom m h i all replies (f ∷ fs) = FactFrom m h i all replies f × EachFrom m h i all replies fs

-- an answer's facts
abbrev pub Sourced : Market → History → Input → Answer → Type 0
Sourced m h i x = EachFrom m h i x.facts x.replies x.facts

pub EachFrom-append : (m : Market) (h : History) (i : Input) (all : List Fact) (replies : List Reply) (fs gs : List Fact) → EachFrom m h i all replies fs → EachFrom m h i all replies gs → EachFrom m h i all replies (fs ++ gs)
EachFrom-append m h i all replies [] gs p q = q
EachFrom-append m h i all replies (f ∷ fs) gs p q = (p.0, EachFrom-append m h i all replies fs gs p.1 q)

pub EachFrom-in : (m : Market) (h : History) (i : Input) (all : List Fact) (replies : List Reply) (fs : List Fact) (f : Fact) → EachFrom m h i all replies fs → In f fs → FactFrom m h i all replies f
EachFrom-in m h i all replies [] f p k = absurd k
EachFrom-in m h i all replies (g ∷ gs) f p (inl e) = subst (FactFrom m h i all replies) e p.0
EachFrom-in m h i all replies (g ∷ gs) f p (inr k) = EachFrom-in m h i all replies gs f p.1 k

-- the trades of an order that enters

in_book_old : (a b c d : ℕ) → InBook a b ≡ InBook c d → a ≡ c
in_book_old a b c d e = cc

in_book_new : (a b c d : ℕ) → InBook a b ≡ InBook c d → b ≡ d
in_book_new a b c d e = cc

trades-From : (m : Market) (h : History) (i : Input) (all : List Fact) (replies : List Reply) (e : Entry) (fs : List Fill) → In (Entered e) all → ((f : Fill) → In f fs → In f (fills h.facts e.order)) → EachFrom m h i all replies (map (λ f. Traded (trade_of e f)) fs)
trades-From m h i all replies e [] there filled = tt
trades-From m h i all replies e (f ∷ fs) there filled = (
  λ old new place. record {
    entry = e;
    fill = f;
    entered = there;
    filled = filled f (inl refl);
    same = refl;
    old_number = in_book_old f.resting.entry.number e.number old new place;
    new_number = in_book_new f.resting.entry.number e.number old new place;
  },
  trades-From m h i all replies e fs there (λ g k. filled g (inr k)),
)

pub entry-From : (m : Market) (h : History) (i : Input) (all : List Fact) (replies : List Reply) (e : Entry) → In (Entered e) all → EachFrom m h i all replies (entry_facts e (fills h.facts e.order))
entry-From m h i all replies e there = (tt, trades-From m h i all replies e (fills h.facts e.order) there (λ f k. k))
