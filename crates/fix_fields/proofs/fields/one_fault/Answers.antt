use Rattle.fix_fields.proofs.OneFault.{one_fault, no_fault}
use Rattle.fix_fields.proofs.fields.one_fault.Goals as goal

pub returns : goal.returns
returns c = record { determined = one_fault; none = no_fault }
