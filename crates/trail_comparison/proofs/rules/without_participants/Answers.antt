use Rattle.std.proofs.Common.{List, Result, Ok, subst}
use Rattle.std.specs.Prelude.{IfOk}
use Rattle.instruments.specs.Reading.{Reads}
use Rattle.instruments.specs.declared.fault.FileFault.{FileFault}
use Rattle.instruments.specs.declared.instruments.Instrument.{Instrument}
use Rattle.trail_comparison.proofs.rules.without_participants.Goals as goal

pub returns-in-Ok-clause-other : goal.returns-in-Ok-clause-other
returns-in-Ok-clause-other c = λ text why ok.
    c.with_instruments.ensures.other text why (subst (λ (r : Result (List Instrument) FileFault). IfOk r (λ file. Reads text (Ok file))) c.in-Ok.is ok)
