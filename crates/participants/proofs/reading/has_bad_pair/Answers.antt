use Rattle.std.proofs.Common.{◌∙◌}
use Rattle.toml.specs.View.{view}
use Rattle.participants.specs.Reading.{is_bad_pair, related_pairs}
use Rattle.config_format.proofs.ListLemmas.{any-seen}
use Rattle.participants.proofs.reading.has_bad_pair.Goals as goal

pub returns : goal.returns
returns c = c.any_bad_pair.ensures ∙ any-seen is_bad_pair c.entries.result.now (related_pairs (view c.args.file.now)) c.entries.ensures
