-- The reports of trades: of each trade two, one to each party. Trades are numbered from 1, and reported in their order.
use Rattle.std.specs.Prelude.{ℕ, ◌-◌, ◌*◌, ◌==◌, ◌||◌, Bool, true, false, nat_lt, List, filter, length, slice_get, Option, Some, None, if◌then◌else◌}
use Rattle.day_events.specs.declared.event.Event.{Event}
use Rattle.day_events.specs.declared.event.What.{What}
use Rattle.day_events.specs.declared.event.What.TheVariants as what

abbrev pub is_reporting : What → Bool
is_reporting (what.Filled x) = true
is_reporting (what.Traded x) = true
is_reporting _ = false

abbrev pub reports : List Event → List Event
reports es = filter (λ e. is_reporting e.what) es

abbrev pub if_reports : ℕ → What → Bool
if_reports number (what.Filled x) = x.trade == number
if_reports number (what.Traded x) = x.trade == number
if_reports number _ = false

abbrev pub of_trade : ℕ → Option Event → Option Event
of_trade number None = None
of_trade number (Some e) = if if_reports number e.what then Some e else None

-- the first report of a trade, if it stands at its place
abbrev pub report_of : List Event → ℕ → Option Event
report_of rs number = if (number == 0 || nat_lt (length rs) number) then None else of_trade number (slice_get rs ((number - 1) * 2))
