use Rattle.std.proofs.Common.{◌∙◌}
use Rattle.toml.specs.View.{view}
use Rattle.participants.specs.Reading.{is_bad_participant, participants}
use Rattle.config_format.proofs.ListLemmas.{any-seen}
use Rattle.participants.proofs.reading.has_bad_participant.Goals as goal

pub returns : goal.returns
returns c = c.any_bad_participant.ensures ∙ any-seen is_bad_participant c.entries.result.now (participants (view c.args.file.now)) c.entries.ensures
