use Rattle.std.proofs.Common.{◌∙◌}
use Rattle.std.proofs.lemmas.List.{length-map}
use Rattle.venue_main.proofs.serving.run_lines.Goals as goal

pub returns : goal.returns
returns g c = record { lines = _; each = length-map c.args.lines.items _ ∙ c.requires.lines; emitted = _; emitted' = _; closed = c.in_ok-closed.ensures.closed }
