use Rattle.std.proofs.Common.{sym, ap, ◌∙◌, map, option_map}
use Rattle.toml.specs.Data.{get}
use Rattle.toml.specs.View.{array_view, view}
use Rattle.config_format.proofs.DocumentLemmas.{entries-array}
use Rattle.config_format.proofs.document.entries.Goals as goal

pub returns : goal.returns
returns c = ap (map view) c.as_slice.ensures.value ∙ sym (entries-array (get c.args.key.now (view c.args.file.now)) c.in-Some.list.now.items (ap (option_map (λ list. array_view list.now)) (sym c.in-Some.is) ∙ c.list_at.ensures))
