-- What is counted of a day, rule by rule.
use Rattle.std.specs.Prelude.{ℕ, zero, suc, ◌+◌, ◌-◌, ◌==◌, Bool, false, not, nat_le, nat_lt, List, [], ◌∷◌, bytes_eq, count_by, length, Option, None, Some, if◌then◌else◌}
use Rattle.day_events.specs.declared.event.Event.{Event}
use Rattle.day_events.specs.declared.event.What.{What}
use Rattle.day_events.specs.declared.event.What.TheVariants as what
use Rattle.instruments.specs.declared.instruments.Instrument.{Instrument}
use Rattle.instruments.specs.Listing.{delay_of}
use Rattle.surveillance.specs.declared.pairs.LinkedTrade.{LinkedTrade}

-- The refusals whose cause (58) is this text.

abbrev pub is_text : List ℕ → Option (List ℕ) → Bool
is_text text None = false
is_text text (Some cause) = bytes_eq cause text

abbrev pub is_refused_for : List ℕ → What → Bool
is_refused_for text (what.Refused cause) = is_text text cause
is_refused_for text _ = false

abbrev pub refused_for : List ℕ → List Event → ℕ
refused_for text es = count_by (λ e. is_refused_for text e.what) es

-- The trades of linked orders that entered less than the delay apart.

abbrev pub is_near : LinkedTrade → Bool
is_near t = nat_lt t.between t.delay

abbrev pub near : List LinkedTrade → ℕ
near ts = count_by is_near ts

-- The least time between linked orders over their delay; none where there is no such trade.

abbrev pub over : LinkedTrade → ℕ
over t = t.between - t.delay

abbrev pub lesser : ℕ → Option ℕ → ℕ
lesser time None = time
lesser time (Some later) = if nat_le time later then time else later

abbrev pub least_over : List LinkedTrade → Option ℕ
least_over [] = None
least_over (t ∷ ts) = Some (lesser (over t) (least_over ts))

-- The instruments with another delay than 15 seconds.

abbrev pub is_adjusted : ℕ → Bool
is_adjusted delay = not (delay == 15000)

abbrev pub one_if : Bool → ℕ
one_if test = if test then 1 else 0

-- of n instruments, from this one on
abbrev pub adjusted_from : List Instrument → ℕ → ℕ → ℕ
adjusted_from xs x zero = 0
adjusted_from xs x (suc n) = one_if (is_adjusted (delay_of xs x)) + adjusted_from xs (x + 1) n

abbrev pub adjusted : List Instrument → ℕ
adjusted xs = adjusted_from xs 0 (length xs)
