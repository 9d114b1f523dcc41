use Rattle.std.proofs.Common.{Result, Ok, subst}
use Rattle.std.specs.Prelude.{IfErr, IfOk}
use Rattle.participants.specs.ParticipantFile.{ParticipantFile}
use Rattle.participants.specs.Reading.{IsFaultOf, Reads}
use Rattle.participants.specs.declared.fault.FileFault.{FileFault}
use Rattle.trail_comparison.proofs.rules.other_rules.Goals as goal

pub returns-in-Ok-clause-other : goal.returns-in-Ok-clause-other
returns-in-Ok-clause-other c =
    let text = c.args.text.now in
    let read : Reads text (Ok c.in-Ok.participants) = subst (λ (r : Result ParticipantFile FileFault). IfOk r (λ file. Reads text (Ok file))) c.in-Ok.is c.in_ok-participants.ensures.read in
    c.with_participants.ensures.other text read c.in_ok-instruments.ensures.read c.in_ok-instruments.ensures.fault

pub returns-in-Err-clause-other : goal.returns-in-Err-clause-other
returns-in-Err-clause-other c =
    let text = c.args.text.now in
    let why : IsFaultOf text c.in-Err.fault = subst (λ (r : Result ParticipantFile FileFault). IfErr r (IsFaultOf text)) c.in-Err.is c.in_ok-participants.ensures.fault in
    c.without_participants.ensures.other text why c.in_ok-instruments.ensures.read
