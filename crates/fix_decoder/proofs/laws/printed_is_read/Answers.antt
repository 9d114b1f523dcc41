use Rattle.fix_decoder.proofs.PrintedLaws.{fields_law, message_law, app_law}
use Rattle.fix_decoder.proofs.laws.printed_is_read.Goals as goal

pub returns : goal.returns
returns c = record { fields = fields_law; message = message_law; app = app_law }
