use Rattle.std.specs.Prelude.{◌<◌, ◌^◌}
use Rattle.venue_request.specs.declared.counts.Counts.{Counts}

-- counts small enough for further inputs
abbrev pub AreCounts : Counts → Type 0
AreCounts c = (c.reports < 2 ^ 61) × (c.trades < 2 ^ 61)
