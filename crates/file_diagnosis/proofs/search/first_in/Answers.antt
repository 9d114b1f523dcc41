use Rattle.std.proofs.Common.{◌∙◌, ap, [], List, ℕ}
use Rattle.toml.specs.Data.{Data, get}
use Rattle.toml.specs.View.{view}
use Rattle.config_format.specs.Document.{entries_in}
use Rattle.file_diagnosis.specs.Causes.{first_from}
use Rattle.file_diagnosis.proofs.search.first_in.Goals as goal

pub returns : goal.returns
returns c = c.first_among.ensures ∙ ap (λ (ds : List Data). first_from (view c.args.file.now) c.args.part c.args.look [] ds) (c.entries.ensures ∙ ap (λ (word : List ℕ). entries_in (get word (view c.args.file.now))) c.part_word.ensures)
