-- The events of a day report its trades.
use Rattle.std.proofs.Common.{◌≡◌, ℕ, ◌+◌, ◌==◌, Bool, true, false, if◌then◌else◌, List, [], ◌∷◌, ◌++◌, Option, Some, None, refl, sym, ap, ◌∙◌, subst, append-nil}
use Rattle.std.specs.List.{cons_option, flat_map}
use Rattle.std.proofs.lemmas.List.Elements.{filter_map-append}
use Rattle.venue_rules.specs.declared.refusals.OrderRefusal.{OrderRefusal}
use Rattle.venue_rules.specs.declared.refusals.OrderRefusal.TheVariants as refusal
use Rattle.venue_rules.specs.declared.replies.OrderReport.{OrderReport}
use Rattle.venue_rules.specs.declared.replies.QuoteState.{QuoteState}
use Rattle.venue_rules.specs.declared.replies.QuoteState.TheVariants as state
use Rattle.venue_rules.specs.declared.replies.Reply.{Reply}
use Rattle.venue_rules.specs.declared.replies.ReplyBody.{ReplyBody}
use Rattle.venue_rules.specs.declared.replies.ReplyBody.TheVariants as reply
use Rattle.venue_rules.specs.declared.trail.Taken.{Taken}
use Rattle.venue_rules.specs.declared.trail.TrailRow.{TrailRow}
use Rattle.venue_rules.specs.Facts.{History, no_history, trades}
use Rattle.venue_rules.specs.Market.{Market}
use Rattle.venue_rules.specs.Run.{Input, after, answer_input, run, run_from}
use Rattle.market_laws.specs.TradeReports.{AreInPairs, TradeReport, TradesAreReportedInPairs, report_in, trade_reports}
use Rattle.venue_core.specs.Replay.{AreEmitted}
use Rattle.day_events.specs.declared.event.Event.{Event}
use Rattle.day_events.specs.declared.event.Origin.{Origin}
use Rattle.day_events.specs.declared.event.What.TheVariants.{Refused}
use Rattle.day_events.specs.Days.{said_from, taken_in}
use Rattle.day_events.specs.Events.{cause, ended_for_other, event, events_at, is_refusal, origin_of, refused_at, reported, reported_what, too_recent}
use Rattle.day_events.specs.TradeEvents.{EventsReportTrades, report_by, trades_reported}

-- of one reply

too_recent_silent : (o : Origin) (to : ℕ) (r : OrderReport) (cause : OrderRefusal) → trades_reported (too_recent o to r cause) ≡ []
too_recent_silent o to r refusal.LinkedOrderTooRecent = refl
too_recent_silent o to r refusal.UnknownInstrument = refl
too_recent_silent o to r refusal.DuplicateClOrdId = refl
too_recent_silent o to r refusal.UnsupportedOrder = refl
too_recent_silent o to r refusal.PriceOffTick = refl
too_recent_silent o to r refusal.QuantityBelowLeast = refl
too_recent_silent o to r refusal.BookSideFull = refl

ended_silent : (b : Bool) (o : Origin) (to : ℕ) (quote : Option (List ℕ)) (s : QuoteState) → trades_reported (ended_for_other b o to quote s) ≡ []
ended_silent true o to quote s = refl
ended_silent false o to quote state.Withdrawn = refl
ended_silent false o to quote state.Passed = refl
ended_silent false o to quote state.Accepted = refl
ended_silent false o to quote (state.Refused c) = refl
ended_silent false o to quote (state.ResponseRefused c) = refl
ended_silent false o to quote state.CancelUnsupported = refl
ended_silent false o to quote state.Expired = refl
ended_silent false o to quote state.NotFound = refl

one_reported : (o : Origin) (to : ℕ) (b : ReplyBody) → trades_reported (reported_what o to b) ≡ cons_option (report_in to b) []
one_reported o to (reply.OrderRefused r) = too_recent_silent o to r.order r.cause
one_reported o to (reply.CrossRefused r) = refl
one_reported o to (reply.OrderEntered r) = refl
one_reported o to (reply.OrderFilled r) = refl
one_reported o to (reply.OrderUnfilled r) = refl
one_reported o to (reply.OrderCancelled r) = refl
one_reported o to (reply.OrderReplaced r) = refl
one_reported o to (reply.ChangeRefused r) = refl
one_reported o to (reply.RequestRefused r) = refl
one_reported o to (reply.RequestSent r) = refl
one_reported o to (reply.QuoteStatus r) = ended_silent (to + 1 == o.from) o to r.quote_id r.state
one_reported o to (reply.QuoteSent r) = refl
one_reported o to (reply.RoomTraded r) = refl
one_reported o to (reply.BookSnapshot r) = refl
one_reported o to (reply.MarketDataReject r) = refl
one_reported o to (reply.BusinessReject r) = refl

-- of the replies to a row

put_first : (x : Option TradeReport) (xs : List TradeReport) → cons_option x [] ++ xs ≡ cons_option x xs
put_first None xs = refl
put_first (Some y) xs = refl

all_reported : (o : Origin) (rs : List Reply) → trades_reported (flat_map (reported o) rs) ≡ trade_reports rs
all_reported o [] = refl
all_reported o (r ∷ rs) =
    filter_map-append (λ (e : Event). report_by e.to e.what) (reported o r) (flat_map (reported o) rs)
    ∙ (ap (λ (l : List TradeReport). l ++ trades_reported (flat_map (reported o) rs)) (one_reported o r.to r.what)
    ∙ (put_first (report_in r.to r.what) (trades_reported (flat_map (reported o) rs)) ∙ ap (cons_option (report_in r.to r.what)) (all_reported o rs)))

refused_silent : (o : Origin) (rs : List Reply) → trades_reported (refused_at o rs) ≡ []
refused_silent o [] = refl
refused_silent o (r ∷ rs) = by (is_refusal r.what) (event o r.to (Refused (cause r.what)) ∷ []) refl (refused_silent o rs)
  where
    by : (b : Bool) (es : List Event) → trades_reported es ≡ [] → trades_reported (refused_at o rs) ≡ [] → trades_reported (if b then es else refused_at o rs) ≡ []
    by true es first later = first
    by false es first later = later

row_reported : (r : TrailRow) (taken : Option Taken) (replies : List Reply) → trades_reported (events_at r taken replies) ≡ trade_reports replies
row_reported r taken replies =
    let o = origin_of r taken in
    filter_map-append (λ (e : Event). report_by e.to e.what) (flat_map (reported o) replies) (refused_at o replies)
    ∙ (ap (λ (l : List TradeReport). trades_reported (flat_map (reported o) replies) ++ l) (refused_silent o replies)
    ∙ (append-nil (trades_reported (flat_map (reported o) replies)) ∙ all_reported o replies))

-- of a day

day_reported : (m : Market) (h : History) (rs : List TrailRow) (is : List Input) → AreEmitted rs is → trades_reported (said_from events_at m h rs is) ≡ trade_reports (run_from m h is).replies
day_reported m h [] [] emitted = refl
day_reported m h [] (i ∷ is) emitted = absurd emitted
day_reported m h (r ∷ rs) [] emitted = absurd emitted
day_reported m h (r ∷ rs) (i ∷ is) emitted =
    let a = answer_input m h i in
    let here = events_at r (taken_in i) a.replies in
    let later = said_from events_at m (after h a) rs is in
    filter_map-append (λ (e : Event). report_by e.to e.what) here later
    ∙ ((λ j. row_reported r (taken_in i) a.replies j ++ day_reported m (after h a) rs is emitted.1 j)
    ∙ sym (filter_map-append (λ (x : Reply). report_in x.to x.what) a.replies (run_from m (after h a) is).replies))

pub events_report : ((m : Market) (is : List Input) → TradesAreReportedInPairs m is) → EventsReportTrades
events_report law m rs s es ps day =
    let facts = (run m day.items).history.facts in
    subst (AreInPairs 1 (trades facts)) (sym (ap trades_reported day.answered ∙ day_reported m no_history rs day.items day.emitted)) (law m day.items)
