use Rattle.std.proofs.Common.{◌≡◌, ℕ, ◌≤◌, length}
use Rattle.std.specs.Prelude.{slice_get}
use Rattle.intake_seats.specs.Ends.{AreTakes}
use Rattle.venue_worker.specs.Acts.{ArePolled}
use Rattle.venue_worker.specs.Phases.{AreTokensTaken}
use Rattle.venue_worker.proofs.end_tokens.take_end_tokens.Given as goal

abbrev pub invariant-loop-k : goal.invariant-loop-k
invariant-loop-k l = record {
  own : AreTakes l.board l.takes.items;
  count : length l.takes.items ≡ length l.fn.takes.items;
  tokens_taken : AreTokensTaken l.k l.takes.items;
  polled : ArePolled l.fn.takes.items l.takes.items;
  still : (j : ℕ) → l.k ≤ j → slice_get l.takes.items j ≡ slice_get l.fn.takes.items j;
}
