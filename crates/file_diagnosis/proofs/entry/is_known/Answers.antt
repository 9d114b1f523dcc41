use Rattle.std.proofs.Common.{◌∙◌, sym, codes, bytes_eq}
use Rattle.toml.specs.View.{view}
use Rattle.config_format.specs.Document.{text_at}
use Rattle.config_format.proofs.ListLemmas.{any-seen}
use Rattle.participants.specs.Reading.{participants}
use Rattle.file_diagnosis.proofs.Lists.{any_of}
use Rattle.file_diagnosis.proofs.entry.is_known.Goals as goal

pub returns : goal.returns
returns c =
    c.names_one.ensures
    ∙ (any-seen (λ d. bytes_eq c.args.name.now (text_at (codes "name") d)) c.entries.result.now (participants (view c.args.file.now)) c.entries.ensures
    ∙ sym (any_of (bytes_eq c.args.name.now) (text_at (codes "name")) (participants (view c.args.file.now))))
