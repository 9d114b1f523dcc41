use Rattle.std.proofs.Common.{◌∙◌}
use Rattle.toml.specs.View.{view}
use Rattle.instruments.specs.Reading.{instruments, is_bad_instrument}
use Rattle.config_format.proofs.ListLemmas.{any-seen}
use Rattle.instruments.proofs.reading.has_bad_instrument.Goals as goal

pub returns : goal.returns
returns c = c.any_bad_instrument.ensures ∙ any-seen is_bad_instrument c.entries.result.now (instruments (view c.args.file.now)) c.entries.ensures
