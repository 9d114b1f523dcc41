-- What is kept of a participant's day: counts, and what is open of its own.
use Rattle.std.specs.Prelude.{ℕ, List, [], None, Option}
use Rattle.std.specs.Ordering.{nat_cmp}
use Rattle.std.specs.declared.cmp.Ordering.{Ordering}
use Rattle.std.specs.Cmp.Lexicographic.{slice_cmp}
use Rattle.participant_activity.specs.declared.activity.Activity as kept
use Rattle.participant_activity.specs.declared.activity.OrderCounts.{OrderCounts}
use Rattle.participant_activity.specs.declared.activity.OwnRequest.{OwnRequest}
use Rattle.participant_activity.specs.declared.activity.QuoteCounts.{QuoteCounts}
use Rattle.participant_activity.specs.declared.activity.Traded.{Traded}
use Rattle.participant_activity.specs.declared.key.Cause.{Cause}
use Rattle.participant_activity.specs.declared.key.Name.{Name}

-- by their bytes
abbrev pub name_cmp : Name → Name → Ordering
name_cmp a b = slice_cmp nat_cmp a.id b.id

abbrev pub cause_cmp : Cause → Cause → Ordering
cause_cmp a b = slice_cmp nat_cmp a.text b.text

pub record Activity : Type 0 where
  pub first : Option ℕ
  pub last : Option ℕ
  pub quotes : QuoteCounts
  pub orders : OrderCounts
  -- the requests that it was asked in, by the identifier (131) that it was sent
  pub asked : List (Name × OwnRequest)
  -- in ascending order the milliseconds from a request to its first quote in it, and in how many requests
  pub times : List (ℕ × ℕ)
  -- the causes of refusals, with how many
  pub causes : List (Cause × ℕ)
  -- its trades by instrument
  pub trades : List (Name × Traded)

-- as the program keeps it
abbrev pub activity_of : kept.Activity → Activity
activity_of a = record { first = a.first; last = a.last; quotes = a.quotes; orders = a.orders; asked = a.asked.entries; times = a.times.entries; causes = a.causes.entries; trades = a.trades.entries }

abbrev pub no_quotes : QuoteCounts
no_quotes = record { asked = 0; quoted = 0; sent = 0; accepted = 0; hit = 0; passed = 0; withdrawn = 0; replaced = 0; lapsed = 0; requests = 0; requests_traded = 0; not_live = 0 }

abbrev pub no_orders : OrderCounts
no_orders = record { orders = 0; crosses = 0; entered = 0; filled = 0; whole = 0; cancelled = 0; unfilled = 0; held = 0; replaced = 0; refused = 0 }

-- before the first row
abbrev pub no_activity : Activity
no_activity = record { first = None; last = None; quotes = no_quotes; orders = no_orders; asked = []; times = []; causes = []; trades = [] }
