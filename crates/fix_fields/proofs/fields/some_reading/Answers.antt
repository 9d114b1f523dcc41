use Rattle.fix_fields.proofs.Total.{some_reading}
use Rattle.fix_fields.proofs.fields.some_reading.Goals as goal

pub returns : goal.returns
returns c = some_reading
