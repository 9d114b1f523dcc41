-- What happened in rooms, step by step: as the events of a day say it, and as the facts do.
use Rattle.std.proofs.Common.{◌≡◌, ℕ, suc, ◌+◌, ◌==◌, Bool, true, false, if◌then◌else◌, List, [], ◌∷◌, ◌++◌, length, Option, Some, refl, sym, ap, ◌∙◌, append-nil, append_assoc, arith}
use Rattle.std.specs.List.{flat_map, list_any}
use Rattle.std.proofs.lemmas.Grind.{flat_map-append}
use Rattle.venue_rules.specs.declared.facts.Fact.{Fact}
use Rattle.venue_rules.specs.declared.facts.Fact.TheVariants.{Entered, Traded, Removed, Held, Unheld, Asked, Quoted, Withdrawn, Closed}
use Rattle.venue_rules.specs.declared.facts.RoomQuote.{RoomQuote}
use Rattle.venue_rules.specs.declared.facts.TradeSource.{TradeSource}
use Rattle.venue_rules.specs.declared.facts.TradeSource.TheVariants.{Book as InBook, Room as InRoom}
use Rattle.venue_rules.specs.declared.refusals.OrderRefusal.{OrderRefusal}
use Rattle.venue_rules.specs.declared.refusals.OrderRefusal.TheVariants as refusal
use Rattle.venue_rules.specs.declared.replies.OrderReport.{OrderReport}
use Rattle.venue_rules.specs.declared.replies.QuoteState.{QuoteState}
use Rattle.venue_rules.specs.declared.replies.QuoteState.TheVariants as state
use Rattle.venue_rules.specs.declared.replies.Reply.{Reply}
use Rattle.venue_rules.specs.declared.replies.ReplyBody.{ReplyBody}
use Rattle.venue_rules.specs.declared.replies.ReplyBody.TheVariants as reply
use Rattle.venue_rules.specs.declared.trail.Taken.{Taken}
use Rattle.venue_rules.specs.declared.trail.TrailRow.{TrailRow}
use Rattle.venue_rules.specs.Facts.{quotes, trades}
use Rattle.venue_rules.specs.Rooms.{printed}
use Rattle.venue_rules.proofs.Members.{In}
use Rattle.day_events.specs.declared.event.Event.{Event}
use Rattle.day_events.specs.declared.event.Origin.{Origin}
use Rattle.day_events.specs.declared.event.What.{What}
use Rattle.day_events.specs.declared.event.What.TheVariants as what
use Rattle.day_events.specs.Events.{cause, ended_for_other, event, events_at, is_refusal, origin_of, refused_at, reported, reported_what, too_recent}

-- a quote with its number, its room as it was named, its maker's place plus 1 and its end; the end of a quote that was
-- withdrawn or passed; a trade with its number, its room, the quote as it was named, and its moment
pub data Step : Type 0 where
  Quotes : ℕ → Option (List ℕ) → ℕ → ℕ → Step
  Ends : Option (List ℕ) → Step
  Trades : ℕ → ℕ → Option (List ℕ) → ℕ → Step

-- what is known of a row
pub record Source : Type 0 where
  pub from : ℕ
  pub named : Option (List ℕ)
  pub moment : ℕ

abbrev pub source_of : Origin → Source
source_of o = record { from = o.from; named = o.named; moment = o.moment }

-- by events

abbrev pub step_of : Source → What → List Step
step_of x (what.Quoted q) = Quotes q.quote x.named x.from q.end ∷ []
step_of x (what.Withdrawn id) = Ends id ∷ []
step_of x what.Passed = Ends x.named ∷ []
step_of x (what.Traded r) = Trades r.trade r.room x.named x.moment ∷ []
step_of x _ = []

abbrev pub event_steps : Event → List Step
event_steps e = step_of (source_of e.at) e.what

abbrev pub steps : List Event → List Step
steps es = flat_map event_steps es

-- by replies

abbrev pub end_step : Bool → Option (List ℕ) → List Step
end_step true id = []
end_step false id = Ends id ∷ []

abbrev pub status_step : Bool → Source → Option (List ℕ) → QuoteState → List Step
status_step own x id state.Withdrawn = end_step own id
status_step own x id state.Passed = end_step own x.named
status_step own x id _ = []

abbrev pub reply_step : Source → ℕ → ReplyBody → List Step
reply_step x to (reply.QuoteStatus r) = status_step (to + 1 == x.from) x r.quote_id r.state
reply_step x to (reply.QuoteSent r) = Quotes r.quote x.named x.from r.end ∷ []
reply_step x to (reply.RoomTraded r) = Trades r.trade r.room x.named x.moment ∷ []
reply_step x to _ = []

abbrev pub reply_steps : Source → List Reply → List Step
reply_steps x rs = flat_map (λ (r : Reply). reply_step x r.to r.what) rs

-- by facts, with the number of the next trade

abbrev pub trade_steps : ℕ → ℕ → TradeSource → List Step
trade_steps n t (InBook old new) = []
trade_steps n t (InRoom room quote) = Trades n room (Some (printed 81 quote)) t ∷ Trades n room (Some (printed 81 quote)) t ∷ []

abbrev pub fact_steps : ℕ → List Fact → List Step
fact_steps n [] = []
fact_steps n (Traded t ∷ fs) = trade_steps n t.moment t.place ++ fact_steps (n + 1) fs
fact_steps n (Quoted q ∷ fs) = Quotes q.number (Some (printed 82 q.room)) (q.maker + 1) q.end ∷ fact_steps n fs
fact_steps n (Withdrawn w ∷ fs) = Ends (Some (printed 81 w.quote)) ∷ fact_steps n fs
fact_steps n (Entered x ∷ fs) = fact_steps n fs
fact_steps n (Removed x ∷ fs) = fact_steps n fs
fact_steps n (Held x ∷ fs) = fact_steps n fs
fact_steps n (Unheld x ∷ fs) = fact_steps n fs
fact_steps n (Asked x ∷ fs) = fact_steps n fs
fact_steps n (Closed x ∷ fs) = fact_steps n fs

-- whether a room has traded

abbrev pub is_place_in : ℕ → TradeSource → Bool
is_place_in room (InBook old new) = false
is_place_in room (InRoom r quote) = r == room

abbrev pub trades_in : ℕ → Fact → Bool
trades_in room (Traded t) = is_place_in room t.place
trades_in room _ = false

abbrev pub has_traded : List Fact → ℕ → Bool
has_traded facts room = list_any (trades_in room) facts

-- a quote that was withdrawn or passed is a recorded one, in a room that had not traded
abbrev pub Fits : List Fact → Fact → Type 0
Fits before (Withdrawn w) = (q : RoomQuote) × In q (quotes before) × (q.number ≡ w.quote) × (has_traded before q.room ≡ false)
Fits before (Entered x) = Unit {0}
Fits before (Traded x) = Unit {0}
Fits before (Removed x) = Unit {0}
Fits before (Held x) = Unit {0}
Fits before (Unheld x) = Unit {0}
Fits before (Asked x) = Unit {0}
Fits before (Quoted x) = Unit {0}
Fits before (Closed x) = Unit {0}

-- the steps of a further list

pub trades_more : (fs gs : List Fact) (n : ℕ) → fact_steps n (fs ++ gs) ≡ fact_steps n fs ++ fact_steps (n + length (trades fs)) gs
trades_more [] gs n = ap (λ k. fact_steps k gs) (none n)
  where
    none : (k : ℕ) → k ≡ k + 0
    none k = omega arith
trades_more (Traded t ∷ fs) gs n =
    ap (λ l. trade_steps n t.moment t.place ++ l) (trades_more fs gs (n + 1) ∙ ap (λ k. fact_steps (n + 1) fs ++ fact_steps k gs) (moved n (length (trades fs))))
    ∙ sym (append_assoc (trade_steps n t.moment t.place) (fact_steps (n + 1) fs) (fact_steps (n + length (trades (Traded t ∷ fs))) gs))
  where
    moved : (j k : ℕ) → j + 1 + k ≡ j + suc k
    moved j k = omega arith
trades_more (Quoted q ∷ fs) gs n = ap (λ l. Quotes q.number (Some (printed 82 q.room)) (q.maker + 1) q.end ∷ l) (trades_more fs gs n)
trades_more (Withdrawn w ∷ fs) gs n = ap (λ l. Ends (Some (printed 81 w.quote)) ∷ l) (trades_more fs gs n)
trades_more (Entered x ∷ fs) gs n = trades_more fs gs n
trades_more (Removed x ∷ fs) gs n = trades_more fs gs n
trades_more (Held x ∷ fs) gs n = trades_more fs gs n
trades_more (Unheld x ∷ fs) gs n = trades_more fs gs n
trades_more (Asked x ∷ fs) gs n = trades_more fs gs n
trades_more (Closed x ∷ fs) gs n = trades_more fs gs n

-- The events of a row say what its replies do.

too_recent_said : (o : Origin) (to : ℕ) (r : OrderReport) (cause : OrderRefusal) → steps (too_recent o to r cause) ≡ []
too_recent_said o to r refusal.LinkedOrderTooRecent = refl
too_recent_said o to r refusal.UnknownInstrument = refl
too_recent_said o to r refusal.DuplicateClOrdId = refl
too_recent_said o to r refusal.UnsupportedOrder = refl
too_recent_said o to r refusal.PriceOffTick = refl
too_recent_said o to r refusal.QuantityBelowLeast = refl
too_recent_said o to r refusal.BookSideFull = refl

ended_said : (b : Bool) (o : Origin) (to : ℕ) (quote : Option (List ℕ)) (s : QuoteState) → steps (ended_for_other b o to quote s) ≡ status_step b (source_of o) quote s
ended_said true o to quote state.Withdrawn = refl
ended_said true o to quote state.Passed = refl
ended_said true o to quote state.Accepted = refl
ended_said true o to quote (state.Refused c) = refl
ended_said true o to quote (state.ResponseRefused c) = refl
ended_said true o to quote state.CancelUnsupported = refl
ended_said true o to quote state.Expired = refl
ended_said true o to quote state.NotFound = refl
ended_said false o to quote state.Withdrawn = refl
ended_said false o to quote state.Passed = refl
ended_said false o to quote state.Accepted = refl
ended_said false o to quote (state.Refused c) = refl
ended_said false o to quote (state.ResponseRefused c) = refl
ended_said false o to quote state.CancelUnsupported = refl
ended_said false o to quote state.Expired = refl
ended_said false o to quote state.NotFound = refl

one_said : (o : Origin) (to : ℕ) (b : ReplyBody) → steps (reported_what o to b) ≡ reply_step (source_of o) to b
one_said o to (reply.OrderRefused r) = too_recent_said o to r.order r.cause
one_said o to (reply.CrossRefused r) = refl
one_said o to (reply.OrderEntered r) = refl
one_said o to (reply.OrderFilled r) = refl
one_said o to (reply.OrderUnfilled r) = refl
one_said o to (reply.OrderCancelled r) = refl
one_said o to (reply.OrderReplaced r) = refl
one_said o to (reply.ChangeRefused r) = refl
one_said o to (reply.RequestRefused r) = refl
one_said o to (reply.RequestSent r) = refl
one_said o to (reply.QuoteStatus r) = ended_said (to + 1 == o.from) o to r.quote_id r.state
one_said o to (reply.QuoteSent r) = refl
one_said o to (reply.RoomTraded r) = refl
one_said o to (reply.BookSnapshot r) = refl
one_said o to (reply.MarketDataReject r) = refl
one_said o to (reply.BusinessReject r) = refl

all_said : (o : Origin) (rs : List Reply) → steps (flat_map (reported o) rs) ≡ reply_steps (source_of o) rs
all_said o [] = refl
all_said o (r ∷ rs) =
    flat_map-append event_steps (reported o r) (flat_map (reported o) rs) ∙ (λ j. one_said o r.to r.what j ++ all_said o rs j)

refused_said : (o : Origin) (rs : List Reply) → steps (refused_at o rs) ≡ []
refused_said o [] = refl
refused_said o (r ∷ rs) = by (is_refusal r.what) (event o r.to (what.Refused (cause r.what)) ∷ []) refl (refused_said o rs)
  where
    by : (b : Bool) (es : List Event) → steps es ≡ [] → steps (refused_at o rs) ≡ [] → steps (if b then es else refused_at o rs) ≡ []
    by true es first later = first
    by false es first later = later

pub row_said : (r : TrailRow) (taken : Option Taken) (replies : List Reply) → steps (events_at r taken replies) ≡ reply_steps (source_of (origin_of r taken)) replies
row_said r taken replies =
    let o = origin_of r taken in
    flat_map-append event_steps (flat_map (reported o) replies) (refused_at o replies)
    ∙ ((λ j. all_said o replies j ++ refused_said o replies j) ∙ append-nil (reply_steps (source_of o) replies))
