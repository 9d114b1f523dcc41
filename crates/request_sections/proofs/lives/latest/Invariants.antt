use Rattle.std.proofs.Common.{◌≡◌, drop}
use Rattle.request_sections.specs.Lives.{latest}
use Rattle.request_sections.proofs.lives.latest.Given as goal

-- the last so far, and then those of the others
abbrev pub invariant-loop-quote : goal.invariant-loop-quote
invariant-loop-quote l = latest l.last (drop l.quote-index l.quotes) ≡ latest l.start l.quotes
