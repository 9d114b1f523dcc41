use Rattle.std.proofs.Common.{◌∙◌}
use Rattle.toml.specs.Data.{get}
use Rattle.toml.specs.View.{view}
use Rattle.config_format.specs.Document.{entries_in, lacks}
use Rattle.config_format.proofs.ListLemmas.{any-seen}
use Rattle.config_format.proofs.document.list_lacks.Goals as goal

pub returns : goal.returns
returns c = c.any_lacks.ensures ∙ any-seen (lacks c.args.key.now) c.entries.result.now (entries_in (get c.args.list.now (view c.args.file.now))) c.entries.ensures
