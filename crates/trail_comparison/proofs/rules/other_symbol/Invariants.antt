use Rattle.instruments.specs.Listing.{symbol_of}
use Rattle.trail_comparison.specs.Rules.{SameBefore}
use Rattle.trail_comparison.proofs.rules.other_symbol.Given as goal

abbrev pub invariant-loop-place : goal.invariant-loop-place
invariant-loop-place l = SameBefore (symbol_of l.own) (symbol_of l.other) l.place
