use Rattle.std.proofs.Common.{refl}
use Rattle.sef_client.proofs.Faults.{emitted, unemitted}
use Rattle.sef_client.proofs.exchange.receive_once.Goals as goal

pub returns-in-Ok-clause-emitted : goal.returns-in-Ok-clause-emitted
returns-in-Ok-clause-emitted g c = unemitted _ _ _ c.in-Got.ensures.said refl

pub returns-in-Err-clause-emitted : goal.returns-in-Err-clause-emitted
returns-in-Err-clause-emitted g c = emitted _ _ _ 0 c.in-Got.ensures.said refl

pub returns-in-Quiet-clause-emitted : goal.returns-in-Quiet-clause-emitted
returns-in-Quiet-clause-emitted g c = unemitted _ _ _ c.in-Quiet.ensures.said refl

pub returns-in-Ended-clause-emitted : goal.returns-in-Ended-clause-emitted
returns-in-Ended-clause-emitted g c = unemitted _ _ _ c.in-Ended.ensures.said refl

pub returns-in-Fault-clause-emitted : goal.returns-in-Fault-clause-emitted
returns-in-Fault-clause-emitted g c = emitted _ _ _ 1 c.in-Fault.ensures.said refl
