use Rattle.std.proofs.Common.{◌≡◌, ℕ, List, take}
use Rattle.surveillance.specs.Kept.{row_at}
use Rattle.surveillance.specs.ShownBest.{first_quote}
use Rattle.surveillance.proofs.shown.first_quotes.Given as goal

-- the first quotes among the events so far
abbrev pub invariant-loop-event : goal.invariant-loop-event
invariant-loop-event l = (id : List ℕ) → row_at l.rows.entries id ≡ first_quote id (take l.event-index l.events)
