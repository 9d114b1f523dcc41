-- What rests after the rows of a day.
use Rattle.std.specs.Prelude.{ℕ, zero, suc, ◌+◌, List, [], ◌++◌, map}
use Rattle.venue_rules.specs.declared.facts.Fact.{Fact}
use Rattle.venue_rules.specs.declared.replies.SnapshotEntry.{SnapshotEntry}
use Rattle.venue_rules.specs.Book.{picture}
use Rattle.instrument_charts.specs.declared.ladder.Rest.{Rest}

abbrev pub rest_of : ℕ → SnapshotEntry → Rest
rest_of x e = record { instrument = x; side = e.side; price = e.price; left = e.left; order = e.order }

-- the resting orders of an instrument by the rules: bids, then offers, each in price-time priority
abbrev pub book_of : List Fact → ℕ → List Rest
book_of facts x = map (rest_of x) (picture facts x)

-- of some instruments, from one on
abbrev pub rests_from : List Fact → ℕ → ℕ → List Rest
rests_from facts x zero = []
rests_from facts x (suc n) = book_of facts x ++ rests_from facts (x + 1) n

-- of the first n instruments, which are all of a file of n
abbrev pub rests : List Fact → ℕ → List Rest
rests facts n = rests_from facts 0 n
