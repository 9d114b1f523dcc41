use Rattle.std.proofs.Common.{inl, inr, List, Result, subst}
use Rattle.std.specs.Prelude.{IfErr}
use Rattle.instruments.specs.Reading.{IsFaultOf}
use Rattle.instruments.specs.declared.fault.FileFault.{FileFault}
use Rattle.instruments.specs.declared.instruments.Instrument.{Instrument}
use Rattle.trail_comparison.proofs.rules.with_participants.Goals as goal

pub returns-in-Err : goal.returns-in-Err
returns-in-Err c = record {
  other = λ text read ok why. tt;
  refused = λ text read ok why.
      inr (inr (inl (subst (λ (r : Result (List Instrument) FileFault). IfErr r (IsFaultOf text)) c.in-Err.is why, (c.args.participants, read))));
}
