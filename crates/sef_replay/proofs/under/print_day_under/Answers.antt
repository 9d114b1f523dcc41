use Rattle.std.proofs.KnownBytes.{Keeps-refl}
use Rattle.sef_replay.specs.Compared.{read_side}
use Rattle.sef_replay.proofs.UnderFile.{refused_file}
use Rattle.sef_replay.proofs.under.print_day_under.Goals as goal

pub returns-in-Err-clause-failed : goal.returns-in-Err-clause-failed
returns-in-Err-clause-failed g c =
    refused_file (read_side c.args.day) c.args.text.now _ _ c.in-Err.fault c.file_failure.result c.file_failure.ensures c.in-Err.ensures.refused (Keeps-refl (g.W.Write.contents c.args.writer.now))
