use Rattle.std.proofs.Common.{◌≡◌, map, take, codes}
use Rattle.toml.specs.View.{view}
use Rattle.config_format.specs.Document.{text_at}
use Rattle.participants.proofs.reading.names_in.Given as goal

abbrev pub invariant-loop-entry : goal.invariant-loop-entry
invariant-loop-entry l = l.names.items ≡ map (λ entry. text_at (codes "name") (view entry)) (take l.entry-index l.list)
