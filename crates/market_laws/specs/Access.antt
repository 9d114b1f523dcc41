use Rattle.std.specs.Prelude.{◌≡◌, ℕ, ◌<◌, List, [], ◌∷◌, length, Contains}
use Rattle.fix_dictionary.specs.declared.messages.App.TheVariants as app
use Rattle.fix_dictionary.specs.declared.messages.MarketDataRequest.{MarketDataRequest}
use Rattle.venue_rules.specs.declared.facts.Fact.{Fact}
use Rattle.venue_rules.specs.declared.facts.Fact.TheVariants.{Entered}
use Rattle.venue_rules.specs.declared.facts.Entry.{Entry}
use Rattle.venue_rules.specs.declared.facts.Room.{Room}
use Rattle.venue_rules.specs.declared.facts.TimeInForce.TheVariants.{Day}
use Rattle.venue_rules.specs.declared.replies.Reply.{Reply}
use Rattle.venue_rules.specs.declared.replies.ReplyBody.TheVariants.{BookSnapshot}
use Rattle.venue_rules.specs.declared.replies.SnapshotEntry.{SnapshotEntry}
use Rattle.venue_rules.specs.declared.trail.Taken.{Taken}
use Rattle.instruments.specs.Listing.{instrument_of, symbol_of}
use Rattle.venue_rules.specs.Market.{Market}
use Rattle.venue_rules.specs.Book.{left}
use Rattle.venue_rules.specs.Answer.{answers, reply}
use Rattle.venue_rules.specs.Lawful.{shown_then}
use Rattle.venue_rules.specs.MoreInputs.{answer_after}
use Rattle.venue_rules.specs.Run.{Input, Message, run}

-- Snapshots of the book, for every participant.

-- the entry of an order in a snapshot
abbrev pub shown_as : List Fact → Entry → SnapshotEntry
shown_as facts e = record { side = e.order.side; price = e.order.price; left = left facts e; order = e.number }

-- a day order of the instrument with leaves quantity above 0, whoever owns it
pub record IsFirm (facts : List Fact) (x : ℕ) (e : Entry) : Type 0 where
  pub entered : Contains facts (Entered e)
  pub day : e.order.life ≡ Day
  pub instrument : e.order.instrument ≡ x
  pub leaves : 0 < left facts e

-- the entries are those of all firm orders, and no others
pub record ShowTheBook (facts : List Fact) (x : ℕ) (entries : List SnapshotEntry) : Type 0 where
  pub all : (e : Entry) → IsFirm facts x e → Contains entries (shown_as facts e)
  pub only : (s : SnapshotEntry) → Contains entries s → (e : Entry) × IsFirm facts x e × (s ≡ shown_as facts e)

-- a request (V) for a snapshot of the whole book: 263 is 0, 264 is 0 (FIX 5.0 SP2)
pub record AsksForBook (m : Market) (x : ℕ) (taken : Taken) (d : MarketDataRequest) : Type 0 where
  pub message : taken.item.app ≡ app.MarketDataRequest d
  pub listed : instrument_of m.instruments d.symbol ≡ x
  pub once : d.subscription_type ≡ 48
  pub whole : d.depth ≡ 0

abbrev pub snapshot : ℕ → List ℕ → List ℕ → List SnapshotEntry → Reply
snapshot who id symbol entries = reply who (BookSnapshot (record { request_id = id; symbol = symbol; entries = entries }))

-- one list of entries is shown to everybody: to each participant who asks, whoever it is and at whatever moment, and to
-- a requester with its request's first quote (17 CFR 37.3(a)(2), (a)(3), 37.202(a), 37.9(a)(3)(i))
pub record OneBookForAll (m : Market) (is : List Input) (x : ℕ) : Type 0 where
  pub entries : List SnapshotEntry
  pub book : ShowTheBook (run m is).history.facts x entries
  pub asked : (taken : Taken) (d : MarketDataRequest) (t : ℕ) → AsksForBook m x taken d → answer_after m is (Message taken t) ≡ answers (snapshot taken.from d.request_id d.symbol entries ∷ [])
  pub with_quote : (r : Room) → r.instrument ≡ x → shown_then m (run m is).history.facts r ≡ snapshot r.requester r.id (symbol_of m.instruments x) entries

-- so it is for each listed instrument, after every list of inputs
abbrev pub EverybodySeesTheBook : Market → List Input → Type 0
EverybodySeesTheBook m is = (x : ℕ) → x < length m.instruments → OneBookForAll m is x
