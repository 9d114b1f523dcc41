use Rattle.std.proofs.Common.{◌∙◌, ap, List}
use Rattle.std.proofs.lemmas.Result.{IfOk-weaker}
use Rattle.surveillance.specs.declared.alarm.Alarm.{Alarm}
use Rattle.surveillance.specs.Alarms.{alarms_of}
use Rattle.surveillance.specs.Texts.{watch_text}
use Rattle.surveillance.proofs.printing.text_of.Goals as goal

pub returns : goal.returns
returns c = λ h is.
    let p = c.participants-participants.result.now in
    IfOk-weaker c.watch_text.result _ _
    (λ text. λ e. e
    ∙ (ap (λ (l : List Alarm). watch_text c.args.form c.args.bounds.now p l) (c.deref-3.ensures.value ∙ c.in_ok-found.ensures.alarms)
    ∙ (λ j. watch_text c.args.form c.args.bounds.now (c.participants-participants.ensures j) (alarms_of c.args.bounds.now (record { participants = c.participants-participants.ensures j; instruments = c.instruments-instruments.ensures j }) (c.trades.ensures h is j) (c.deref.ensures.value j) (c.deref-2.ensures.value j)))))
    c.watch_text.ensures
