use Rattle.std.proofs.Common.{refl}
use Rattle.sef_client.proofs.Faults.{emitted, unemitted}
use Rattle.sef_client.proofs.exchange.write_out.Goals as goal

pub returns-in-Ok-clause-emitted : goal.returns-in-Ok-clause-emitted
returns-in-Ok-clause-emitted g c = unemitted _ _ _ c.in-Ok.ensures refl

pub returns-in-Err-clause-emitted : goal.returns-in-Err-clause-emitted
returns-in-Err-clause-emitted g c = emitted _ _ _ 1 c.in-Err.ensures refl
