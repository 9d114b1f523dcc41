-- What each message that a participant sends or is owed changes of its figures.
use Rattle.std.specs.Prelude.{ℕ, ◌+◌, ◌-◌, ◌^◌, Bool, true, false, ◌==◌, nat_lt, min, List, [], ◌∷◌, Option, Some, None, unwrap_or, if◌then◌else◌}
use Rattle.std.specs.Ordering.{nat_cmp}
use Rattle.std.specs.Map.{lookup}
use Rattle.std.specs.BTreeMap.{insert_entry, is_at}
use Rattle.fix_dictionary.specs.declared.messages.App.{App}
use Rattle.fix_dictionary.specs.declared.messages.App.TheVariants.{QuoteRequest, Quote, QuoteCancel, QuoteStatusReport, QuoteRequestReject, NewOrderSingle, NewOrderCross, ExecutionReport, OrderCancelReject, MarketDataRequestReject, BusinessMessageReject}
use Rattle.fix_dictionary.specs.declared.messages.ExecutionReport.{ExecutionReport as Report}
use Rattle.fix_dictionary.specs.declared.messages.QuoteStatusReport.{QuoteStatusReport as Status}
use Rattle.fix_dictionary.specs.declared.values.Side.{Side}
use Rattle.fix_dictionary.specs.declared.values.Side.TheVariants.{Buy, Sell}
use Rattle.participant_activity.specs.declared.activity.OrderCounts.{OrderCounts}
use Rattle.participant_activity.specs.declared.activity.OwnRequest.{OwnRequest}
use Rattle.participant_activity.specs.declared.activity.QuoteCounts.{QuoteCounts}
use Rattle.participant_activity.specs.declared.activity.Traded.{Traded}
use Rattle.participant_activity.specs.declared.key.Cause.{Cause}
use Rattle.participant_activity.specs.declared.key.Name.{Name}
use Rattle.participant_activity.specs.declared.occasion.Occasion.{Occasion}
use Rattle.participant_activity.specs.declared.occasion.Occasion.TheVariants as occasion
use Rattle.participant_activity.specs.declared.occasion.Notice.{Notice}
use Rattle.participant_activity.specs.declared.occasion.Notice.TheVariants as notice
use Rattle.participant_activity.specs.Kept.{Activity, cause_cmp, name_cmp, no_activity}
use Rattle.participant_activity.specs.Turns.{Turn}

-- a count stops at the greatest number of 64 bits, a quantity at that of 128
abbrev pub plus : ℕ → ℕ → ℕ
plus a b = min (a + b) (2 ^ 64 - 1)

abbrev pub plus_wide : ℕ → ℕ → ℕ
plus_wide a b = min (a + b) (2 ^ 128 - 1)

abbrev pub named : List ℕ → Name
named id = record { id = id }

-- Which message of its own is answered.

unfoldable pub occasion_by : App → Occasion
occasion_by (Quote d) = occasion.Quote d.valid_until
occasion_by (QuoteCancel d) = occasion.Withdrawal
occasion_by _ = occasion.Own

abbrev pub occasion_of : Option App → Occasion
occasion_of None = occasion.Another
occasion_of (Some a) = occasion_by a

-- What a status (297) says, by what it answers.

abbrev pub notice_of_quote : Option ℕ → ℕ → Notice
notice_of_quote end s = if s == 0 then notice.Accepted end else (if s == 5 then notice.Refused else notice.Nothing)

abbrev pub notice_of_withdrawal : ℕ → Notice
notice_of_withdrawal s = if s == 17 then notice.Withdrawn else (if s == 5 then notice.Refused else notice.NotLive)

-- a response of its own: a pass (11) is confirmed
abbrev pub notice_of_response : ℕ → Notice
notice_of_response s = if s == 11 then notice.Nothing else (if s == 5 then notice.Refused else notice.NotLive)

-- another's message: its quote is passed; a withdrawal (17) is of a quote that it was sent
abbrev pub notice_of_another : ℕ → Notice
notice_of_another s = if s == 11 then notice.Passed else notice.Nothing

abbrev pub notice_of : Occasion → ℕ → Notice
notice_of occasion.Another s = notice_of_another s
notice_of (occasion.Quote end) s = notice_of_quote end s
notice_of occasion.Withdrawal s = notice_of_withdrawal s
notice_of occasion.Own s = notice_of_response s

-- Its quotes.

abbrev pub request_at : List (Name × OwnRequest) → List ℕ → Option OwnRequest
request_at rs id = lookup (is_at (name_cmp (named id))) rs

abbrev pub put_request : List (Name × OwnRequest) → List ℕ → OwnRequest → List (Name × OwnRequest)
put_request rs id r = insert_entry name_cmp rs (named id) r

-- whether its last quote in a request is live
abbrev pub live_in : Option OwnRequest → Bool
live_in None = false
live_in (Some r) = r.live

abbrev pub is_live : List (Name × OwnRequest) → Option (List ℕ) → Bool
is_live rs None = false
is_live rs (Some id) = live_in (request_at rs id)

-- it has no live quote in a request
abbrev pub ended_at : List (Name × OwnRequest) → List ℕ → Option OwnRequest → List (Name × OwnRequest)
ended_at rs id None = rs
ended_at rs id (Some r) = put_request rs id (record { moment = r.moment; quoted = r.quoted; live = false; end = r.end })

abbrev pub ended : List (Name × OwnRequest) → Option (List ℕ) → List (Name × OwnRequest)
ended rs None = rs
ended rs (Some id) = ended_at rs id (request_at rs id)

-- the end (62) that a quote gave, if it gave one, passed before a moment
abbrev pub is_past : Option ℕ → ℕ → Bool
is_past None t = false
is_past (Some end) t = nat_lt end t

abbrev pub followed_until : QuoteCounts → Bool → QuoteCounts
followed_until q past = if past then record q { lapsed = plus q.lapsed 1 } else record q { replaced = plus q.replaced 1 }

-- a quote of its own that another follows: it was replaced, unless its own end had passed
abbrev pub followed : QuoteCounts → ℕ → OwnRequest → QuoteCounts
followed q t r = if r.live then followed_until q (is_past r.end t) else q

abbrev pub accepted : QuoteCounts → QuoteCounts
accepted q = record q { accepted = plus q.accepted 1 }

abbrev pub if_first : QuoteCounts → Bool → QuoteCounts
if_first q true = q
if_first q false = record q { quoted = plus q.quoted 1 }

-- the time from a request to its first quote in it
abbrev pub timed : List (ℕ × ℕ) → ℕ → List (ℕ × ℕ)
timed ts ms = insert_entry nat_cmp ts ms (plus (unwrap_or (lookup (is_at (nat_cmp ms)) ts) 0) 1)

abbrev pub timed_first : List (ℕ × ℕ) → ℕ → OwnRequest → Bool → List (ℕ × ℕ)
timed_first ts t r true = ts
timed_first ts t r false = timed ts (t - r.moment)

-- a quote that is accepted in a request that it was asked in
abbrev pub quoted_in : Activity → ℕ → Option ℕ → List ℕ → Option OwnRequest → Activity
quoted_in a t end id None = a
quoted_in a t end id (Some r) = record a {
  quotes = accepted (followed (if_first a.quotes r.quoted) t r);
  times = timed_first a.times t r r.quoted;
  asked = put_request a.asked id (record { moment = r.moment; quoted = true; live = true; end = end });
}

abbrev pub quoted : Activity → ℕ → Option ℕ → Option (List ℕ) → Activity
quoted a t end None = a
quoted a t end (Some id) = quoted_in a t end id (request_at a.asked id)

-- its live quote is passed, withdrawn or hit

abbrev pub count_pass : QuoteCounts → Bool → QuoteCounts
count_pass q live = if live then record q { passed = plus q.passed 1 } else q

abbrev pub after_pass : Activity → Option (List ℕ) → Activity
after_pass a id = record a { quotes = count_pass a.quotes (is_live a.asked id); asked = ended a.asked id }

abbrev pub count_withdrawal : QuoteCounts → Bool → QuoteCounts
count_withdrawal q live = if live then record q { withdrawn = plus q.withdrawn 1 } else q

abbrev pub after_withdrawal : Activity → Option (List ℕ) → Activity
after_withdrawal a id = record a { quotes = count_withdrawal a.quotes (is_live a.asked id); asked = ended a.asked id }

abbrev pub count_hit : QuoteCounts → Bool → QuoteCounts
count_hit q live = if live then record q { hit = plus q.hit 1 } else q

abbrev pub after_hit : Activity → Option (List ℕ) → Activity
after_hit a id = record a { quotes = count_hit a.quotes (is_live a.asked id); asked = ended a.asked id }

-- Refusals, by the answer's own text (58).

abbrev pub caused : List (Cause × ℕ) → List ℕ → List (Cause × ℕ)
caused cs text = insert_entry cause_cmp cs (record { text = text }) (plus (unwrap_or (lookup (is_at (cause_cmp (record { text = text }))) cs) 0) 1)

abbrev pub caused_by : List (Cause × ℕ) → Option (List ℕ) → List (Cause × ℕ)
caused_by cs None = cs
caused_by cs (Some text) = caused cs text

abbrev pub refused : Activity → Option (List ℕ) → Activity
refused a text = record a { orders = record a.orders { refused = plus a.orders.refused 1 }; causes = caused_by a.causes text }

-- A status report.

abbrev pub after_notice : Activity → ℕ → Status → Notice → Activity
after_notice a t d (notice.Accepted end) = quoted a t end d.request_id
after_notice a t d notice.Refused = refused a d.text
after_notice a t d notice.Passed = after_pass a d.request_id
after_notice a t d notice.Withdrawn = after_withdrawal a d.request_id
after_notice a t d notice.NotLive = record a { quotes = record a.quotes { not_live = plus a.quotes.not_live 1 } }
after_notice a t d notice.Nothing = a

-- Its trades.

abbrev pub no_trades : Traded
no_trades = record { bought = 0; quantity_bought = 0; sold = 0; quantity_sold = 0 }

abbrev pub with_trade : Traded → Side → ℕ → Traded
with_trade d Buy n = record d { bought = plus d.bought 1; quantity_bought = plus_wide d.quantity_bought n }
with_trade d Sell n = record d { sold = plus d.sold 1; quantity_sold = plus_wide d.quantity_sold n }

abbrev pub traded : List (Name × Traded) → List ℕ → Side → ℕ → List (Name × Traded)
traded ds symbol side n = insert_entry name_cmp ds (named symbol) (with_trade (unwrap_or (lookup (is_at (name_cmp (named symbol))) ds) no_trades) side n)

abbrev pub quantity_in : Option ℕ → ℕ
quantity_in None = 0
quantity_in (Some n) = n

-- An execution report: its OrderID (37) is an order (O1), a request (R1), or NONE.

abbrev pub begins_with : ℕ → List ℕ → Bool
begins_with first [] = false
begins_with first (b ∷ bs) = b == first

abbrev pub is_another : Occasion → Bool
is_another occasion.Another = true
is_another (occasion.Quote end) = false
is_another occasion.Withdrawal = false
is_another occasion.Own = false

-- a request traded: another hit its quote, or it hit another's
abbrev pub room_traded : Activity → Report → Bool → Activity
room_traded a d true = after_hit a (Some d.venue_order_id)
room_traded a d false = record a { quotes = record a.quotes { requests_traded = plus a.quotes.requests_traded 1 } }

-- the first fill of an order, over all that it replaced
abbrev pub if_first_fill : OrderCounts → ℕ → ℕ → OrderCounts
if_first_fill c so_far quantity = if so_far == quantity then record c { filled = plus c.filled 1 } else c

abbrev pub if_whole : OrderCounts → ℕ → OrderCounts
if_whole c left = if left == 0 then record c { whole = plus c.whole 1 } else c

abbrev pub order_traded : Activity → Report → Activity
order_traded a d = record a { orders = if_whole (if_first_fill a.orders d.filled (quantity_in d.last_quantity)) d.left }

abbrev pub filled_by : Activity → Occasion → Report → Activity
filled_by a o d = if begins_with 82 d.venue_order_id then room_traded a d (is_another o) else order_traded a d

abbrev pub filled : Activity → Occasion → Report → Activity
filled a o d = filled_by (record a { trades = traded a.trades d.symbol d.side (quantity_in d.last_quantity) }) o d

-- cancelled as it asked (41), or what was left at its entry
abbrev pub cancelled_order : OrderCounts → Option (List ℕ) → OrderCounts
cancelled_order c None = record c { unfilled = plus c.unfilled 1 }
cancelled_order c (Some original) = record c { cancelled = plus c.cancelled 1 }

abbrev pub cancelled : OrderCounts → Report → OrderCounts
cancelled c d = if begins_with 79 d.venue_order_id then cancelled_order c d.original_id else record c { held = plus c.held 1 }

-- by ExecType (150): 0 new, 4 cancelled, 5 replaced, 8 rejected, F a fill
abbrev pub after_report : Activity → Occasion → Report → Activity
after_report a o d =
    if d.execution_type == 70 then filled a o d
    else (if d.execution_type == 48 then record a { orders = record a.orders { entered = plus a.orders.entered 1 } }
    else (if d.execution_type == 52 then record a { orders = cancelled a.orders d }
    else (if d.execution_type == 53 then record a { orders = record a.orders { replaced = plus a.orders.replaced 1 } }
    else (if d.execution_type == 56 then refused a d.text else a))))

-- A message that it is owed.

abbrev pub asked_at : List (Name × OwnRequest) → ℕ → List ℕ → Option OwnRequest → List (Name × OwnRequest)
asked_at rs t id None = put_request rs id (record { moment = t; quoted = false; live = false; end = None })
asked_at rs t id (Some r) = rs

abbrev pub asked_in : Activity → ℕ → List ℕ → Activity
asked_in a t id = record a { quotes = record a.quotes { asked = plus a.quotes.asked 1 }; asked = asked_at a.asked t id (request_at a.asked id) }

unfoldable pub after_message : Activity → ℕ → Occasion → App → Activity
after_message a t o (QuoteRequest d) = asked_in a t d.request_id
after_message a t o (QuoteStatusReport d) = after_notice a t d (notice_of o d.status)
after_message a t o (ExecutionReport d) = after_report a o d
after_message a t o (QuoteRequestReject d) = refused a d.text
after_message a t o (OrderCancelReject d) = refused a d.text
after_message a t o (MarketDataRequestReject d) = refused a d.text
after_message a t o (BusinessMessageReject d) = refused a d.text
after_message a t o _ = a

abbrev pub first_or : Option ℕ → ℕ → Option ℕ
first_or None t = Some t
first_or (Some first) t = Some first

abbrev pub seen : Activity → ℕ → Activity
seen a t = record a { first = first_or a.first t; last = Some t }

abbrev pub after_owed : Activity → ℕ → Occasion → App → Activity
after_owed a t o message = after_message (seen a t) t o message

-- A message that it sends.

unfoldable pub with_sent : Activity → App → Activity
with_sent a (Quote d) = record a { quotes = record a.quotes { sent = plus a.quotes.sent 1 } }
with_sent a (QuoteRequest d) = record a { quotes = record a.quotes { requests = plus a.quotes.requests 1 } }
with_sent a (NewOrderSingle d) = record a { orders = record a.orders { orders = plus a.orders.orders 1 } }
with_sent a (NewOrderCross d) = record a { orders = record a.orders { crosses = plus a.orders.crosses 1 } }
with_sent a _ = a

abbrev pub after_sent : Activity → ℕ → Option App → Activity
after_sent a t None = a
after_sent a t (Some message) = with_sent (seen a t) message

-- A turn: what it sends, and then what it is owed.

abbrev pub after_all : Activity → ℕ → Occasion → List App → Activity
after_all a t o [] = a
after_all a t o (x ∷ xs) = after_all (after_owed a t o x) t o xs

abbrev pub after_turn : Activity → Turn → Activity
after_turn a turn = after_all (after_sent a turn.moment turn.sent) turn.moment (occasion_of turn.sent) turn.owed

-- from what is kept on, turn by turn
abbrev pub activity_from : Activity → List Turn → Activity
activity_from a [] = a
activity_from a (t ∷ ts) = activity_from (after_turn a t) ts

-- of a day
abbrev pub activity : List Turn → Activity
activity ts = activity_from no_activity ts
