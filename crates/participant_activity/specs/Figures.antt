-- The figures of a participant's day, and their text: a line for each,
--
--       activity of BETA
--       quotes hit: 1
--       refused, Price off tick: 2
--       quantity bought, IRS5Y: 100
--
-- or as rows of a table for a spreadsheet (RFC 4180):
--
--       figure,instrument,cause,value
--       quotes hit,,,1
--       refused,,Price off tick,2
--       quantity bought,IRS5Y,,100
use Rattle.std.specs.Prelude.{ℕ, ◌-◌, ◌/◌, ◌^◌, nat_lt, Bool, List, [], ◌∷◌, ◌++◌, Option, Some, None, unwrap_or, codes, decimal, if◌then◌else◌}
use Rattle.std.specs.List.{flat_map}
use Rattle.std.specs.Ordering.{nat_cmp, ordering_then}
use Rattle.std.specs.declared.cmp.Ordering.{Ordering}
use Rattle.std.specs.BTreeMap.{insert_entry}
use Rattle.csv.specs.Writing.{row_text}
use Rattle.sef_moment.specs.Utc.{utc_text}
use Rattle.message_words.specs.Cells.{setup}
use Rattle.participant_activity.specs.declared.activity.OrderCounts.{OrderCounts}
use Rattle.participant_activity.specs.declared.activity.OwnRequest.{OwnRequest}
use Rattle.participant_activity.specs.declared.activity.QuoteCounts.{QuoteCounts}
use Rattle.participant_activity.specs.declared.activity.Traded.{Traded}
use Rattle.participant_activity.specs.declared.figures.Figure as lent
use Rattle.participant_activity.specs.declared.figures.Figured.{Figured}
use Rattle.participant_activity.specs.declared.figures.Figured.TheVariants.{Count, Quantity, At}
use Rattle.participant_activity.specs.declared.form.Form.{Form}
use Rattle.participant_activity.specs.declared.form.Form.TheVariants.{Lines, Table}
use Rattle.participant_activity.specs.declared.key.Cause.{Cause}
use Rattle.participant_activity.specs.declared.key.Name.{Name}
use Rattle.participant_activity.specs.declared.ranking.Rank.{Rank}
use Rattle.participant_activity.specs.declared.closing.QuoteEnds.{QuoteEnds}
use Rattle.participant_activity.specs.Kept.{Activity, cause_cmp}
use Rattle.participant_activity.specs.Noting.{is_past, plus}

-- a figure, of an instrument or a cause where it has one
pub record Figure : Type 0 where
  pub name : List ℕ
  pub instrument : List ℕ
  pub cause : List ℕ
  pub value : List ℕ

abbrev pub counted : List ℕ → ℕ → Figure
counted name n = record { name = name; instrument = []; cause = []; value = decimal n }

abbrev pub moment_figure : List ℕ → ℕ → Figure
moment_figure name t = record { name = name; instrument = []; cause = []; value = utc_text t }

abbrev pub figure_at : List ℕ → Option ℕ → List Figure
figure_at name None = []
figure_at name (Some t) = moment_figure name t ∷ []

abbrev pub figure_if : List ℕ → Option ℕ → List Figure
figure_if name None = []
figure_if name (Some n) = counted name n ∷ []

-- Requests that it was asked in.

abbrev pub request_figures : QuoteCounts → List Figure
request_figures q = counted (codes "requests received") q.asked ∷ counted (codes "requests quoted") q.quoted ∷ []

-- the k-th of the times, from 0, in ascending order
abbrev pub nth : List (ℕ × ℕ) → ℕ → Option ℕ
nth [] k = None
nth (e ∷ es) k = if nat_lt k e.1 then Some e.0 else nth es (k - e.1)

abbrev pub least : List (ℕ × ℕ) → Option ℕ
least ts = nth ts 0

-- of an even number the lower of the two in the middle
abbrev pub median : List (ℕ × ℕ) → ℕ → Option ℕ
median ts count = nth ts ((count - 1) / 2)

abbrev pub greatest : List (ℕ × ℕ) → ℕ → Option ℕ
greatest ts count = nth ts (count - 1)

-- Its quotes.

-- quotes that no message ended: whose own end (62) passed before the last message, and the others
abbrev pub no_ends : QuoteEnds
no_ends = record { lapsed = 0; unreported = 0 }

abbrev pub with_live : QuoteEnds → Bool → QuoteEnds
with_live n past = if past then record n { lapsed = plus n.lapsed 1 } else record n { unreported = plus n.unreported 1 }

abbrev pub with_end : ℕ → QuoteEnds → OwnRequest → QuoteEnds
with_end last n r = if r.live then with_live n (is_past r.end last) else n

abbrev pub ends_from : ℕ → QuoteEnds → List (Name × OwnRequest) → QuoteEnds
ends_from last n [] = n
ends_from last n (r ∷ rs) = ends_from last (with_end last n r.1) rs

abbrev pub ends_at : Option ℕ → List (Name × OwnRequest) → QuoteEnds
ends_at last rs = ends_from (unwrap_or last 0) no_ends rs

abbrev pub quote_figures : QuoteCounts → QuoteEnds → List Figure
quote_figures q n =
    counted (codes "quotes sent") q.sent
    ∷ counted (codes "quotes accepted") q.accepted
    ∷ counted (codes "quotes hit") q.hit
    ∷ counted (codes "quotes passed") q.passed
    ∷ counted (codes "quotes withdrawn") q.withdrawn
    ∷ counted (codes "quotes replaced") q.replaced
    ∷ counted (codes "quotes whose own end (62) passed") (plus q.lapsed n.lapsed)
    ∷ counted (codes "quotes whose end no message states (run out or traded elsewhere or live)") n.unreported
    ∷ []

-- Requests of its own.

abbrev pub own_figures : QuoteCounts → List Figure
own_figures q =
    counted (codes "requests sent") q.requests
    ∷ counted (codes "requests traded") q.requests_traded
    ∷ counted (codes "withdrawals and responses that named no live quote") q.not_live
    ∷ []

-- Its orders.

-- what entered, but for what was filled whole or cancelled
abbrev pub resting : OrderCounts → ℕ
resting c = ((c.entered - c.whole) - c.cancelled) - c.unfilled

abbrev pub order_figures : OrderCounts → List Figure
order_figures c =
    counted (codes "orders sent") c.orders
    ∷ counted (codes "crosses sent") c.crosses
    ∷ counted (codes "orders and cross sides entered") c.entered
    ∷ counted (codes "orders filled in part or whole") c.filled
    ∷ counted (codes "orders filled whole") c.whole
    ∷ counted (codes "orders cancelled") c.cancelled
    ∷ counted (codes "orders cancelled at entry") c.unfilled
    ∷ counted (codes "orders replaced") c.replaced
    ∷ []

abbrev pub end_figures : OrderCounts → List Figure
end_figures c =
    counted (codes "orders resting at the end") (resting c)
    ∷ counted (codes "held cross sides cancelled") c.held
    ∷ counted (codes "refusals received") c.refused
    ∷ []

-- Refusals, most first; of as many, by the text.

abbrev pub rank_cmp : Rank → Rank → Ordering
rank_cmp a b = ordering_then (nat_cmp a.fewer b.fewer) (cause_cmp a.cause b.cause)

abbrev pub rank_of : Cause → ℕ → Rank
rank_of c n = record { fewer = (2 ^ 64 - 1) - n; cause = c }

abbrev pub ranked_from : List (Rank × ℕ) → List (Cause × ℕ) → List (Rank × ℕ)
ranked_from rs [] = rs
ranked_from rs (c ∷ cs) = ranked_from (insert_entry rank_cmp rs (rank_of c.0 c.1) c.1) cs

abbrev pub ranked : List (Cause × ℕ) → List (Rank × ℕ)
ranked cs = ranked_from [] cs

abbrev pub cause_figure : Rank × ℕ → Figure
cause_figure r = record { name = codes "refused"; instrument = []; cause = r.0.cause.text; value = decimal r.1 }

-- Trades, by instrument.

abbrev pub of_instrument : List ℕ → List ℕ → ℕ → Figure
of_instrument name instrument n = record { name = name; instrument = instrument; cause = []; value = decimal n }

abbrev pub trade_figures : Name × Traded → List Figure
trade_figures d =
    of_instrument (codes "trades bought") d.0.id d.1.bought
    ∷ of_instrument (codes "quantity bought") d.0.id d.1.quantity_bought
    ∷ of_instrument (codes "trades sold") d.0.id d.1.sold
    ∷ of_instrument (codes "quantity sold") d.0.id d.1.quantity_sold
    ∷ []

-- Their text.

abbrev pub behind_comma : List ℕ → List ℕ
behind_comma [] = []
behind_comma (b ∷ bs) = codes ", " ++ (b ∷ bs)

abbrev pub line : (name instrument cause value : List ℕ) → List ℕ
line name instrument cause value = name ++ (behind_comma instrument ++ (behind_comma cause ++ (codes ": " ++ (value ++ codes "\n"))))

abbrev pub fields : (name instrument cause value : List ℕ) → List (List ℕ)
fields name instrument cause value = name ∷ instrument ∷ cause ∷ value ∷ []

abbrev pub figure_text : Form → (name instrument cause value : List ℕ) → List ℕ
figure_text Lines name instrument cause value = line name instrument cause value
figure_text Table name instrument cause value = row_text setup (fields name instrument cause value)

abbrev pub text_of : Form → Figure → List ℕ
text_of form f = figure_text form f.name f.instrument f.cause f.value

abbrev pub figures_text : Form → List Figure → List ℕ
figures_text form fs = flat_map (text_of form) fs

-- of figures that are lent

abbrev pub shown : Figured → List ℕ
shown (Count n) = decimal n
shown (Quantity n) = decimal n
shown (At t) = utc_text t

abbrev pub lent_text : Form → lent.Figure → List ℕ
lent_text form f = figure_text form f.name.now f.instrument.now f.cause.now (shown f.value)

-- above the lines whose day it is, above a table the names of its fields

abbrev pub field_names : List (List ℕ)
field_names = codes "figure" ∷ codes "instrument" ∷ codes "cause" ∷ codes "value" ∷ []

abbrev pub heading : Form → List ℕ → List ℕ
heading Lines name = codes "activity of " ++ (name ++ codes "\n")
heading Table name = row_text setup field_names

abbrev pub day_text : Form → Activity → List ℕ
day_text form a = figures_text form (figure_at (codes "first message sent or owed (UTC)") a.first) ++ figures_text form (figure_at (codes "last message sent or owed (UTC)") a.last)

abbrev pub times_text : Form → List (ℕ × ℕ) → ℕ → List ℕ
times_text form ts count =
    figures_text form (figure_if (codes "least milliseconds to a first quote") (least ts))
    ++ (figures_text form (figure_if (codes "median milliseconds to a first quote") (median ts count))
    ++ figures_text form (figure_if (codes "greatest milliseconds to a first quote") (greatest ts count)))

abbrev pub quotes_text : Form → Activity → List ℕ
quotes_text form a =
    figures_text form (request_figures a.quotes)
    ++ (times_text form a.times a.quotes.quoted
    ++ (figures_text form (quote_figures a.quotes (ends_at a.last a.asked))
    ++ figures_text form (own_figures a.quotes)))

abbrev pub orders_text : Form → Activity → List ℕ
orders_text form a =
    figures_text form (order_figures a.orders)
    ++ (figures_text form (end_figures a.orders)
    ++ (flat_map (λ r. text_of form (cause_figure r)) (ranked a.causes)
    ++ flat_map (λ d. figures_text form (trade_figures d)) a.trades))

-- the whole, of a participant with this name
abbrev pub activity_text : Form → List ℕ → Activity → List ℕ
activity_text form name a = heading form name ++ (day_text form a ++ (quotes_text form a ++ orders_text form a))
