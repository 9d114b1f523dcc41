use Rattle.std.proofs.Common.{refl}
use Rattle.sef_client.proofs.Faults.{emitted, unemitted}
use Rattle.sef_client.proofs.exchange.call.Goals as goal

pub returns-in-Up-clause-emitted : goal.returns-in-Up-clause-emitted
returns-in-Up-clause-emitted g c = unemitted _ _ _ c.in-Up.ensures refl

pub returns-in-Quiet-clause-emitted : goal.returns-in-Quiet-clause-emitted
returns-in-Quiet-clause-emitted g c = unemitted _ _ _ c.in-Quiet.ensures refl

pub returns-in-Over-clause-emitted : goal.returns-in-Over-clause-emitted
returns-in-Over-clause-emitted g c = unemitted _ _ _ c.in-Over.ensures refl

pub returns-in-Fault-clause-emitted : goal.returns-in-Fault-clause-emitted
returns-in-Fault-clause-emitted g c = emitted _ _ _ 1 c.in-Fault.ensures refl
