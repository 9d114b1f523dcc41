use Rattle.std.proofs.Common.{◌&&◌, not, ap, sym, ◌∙◌, ◌++◌}
use Rattle.participants.specs.ParticipantFile.{ParticipantFile}
use Rattle.venue_rules.specs.Market.{Market}
use Rattle.venue_core.specs.Plan.{answer_of}
use Rattle.row_replay.specs.Inputs.{input_of}
use Rattle.trail_answers.specs.Emitted.{above, emitted_at, is_nothing}
use Rattle.trail_answers.specs.Sought.{seen_of}
use Rattle.trail_answers.proofs.RowByRow.{emits}
use Rattle.trail_answers.proofs.emitting.emit_row.Goals as goal

pub returns-clause-emitted : goal.returns-clause-emitted
returns-clause-emitted g c =
    let a = c.args in
    let t = a.row.now.moment in
    let i = input_of c.in_ok-taken.taken t in
    let replies = c.replies-replies.result.now in
    let knows = seen_of c.note_row.new.seen in
    let planned = c.in_ok-plan.ensures in
    emits c.day_goes_on.ensures.takes a.form a.scope.now a.row.now i a.venue.now c.plan_item.new.venue c.apply.new.self (answer_of c.in_ok-plan.plan) replies (seen_of a.seen.now) knows c.comes-comes.result
    c.is_nothing-none.result c.deref-2.result.now (g.W.Write.contents a.writer.now) (g.W.Write.contents c.write_text.new.writer) c.in_ok-taken.ensures (record { market = planned.market; day = planned.day }) planned.planned
    c.apply.ensures.market c.apply.ensures.after c.replies-replies.ensures (c.in_ok-note_row.ensures t)
    (c.comes-comes.ensures ∙ (λ k. c.is_there.ensures k && not (c.is_there-was_there.ensures k)))
    (c.deref-2.ensures.value ∙ (c.in_ok-text.ensures
    ∙ ap (λ (file : ParticipantFile). above a.form c.comes-comes.result ++ emitted_at a.form file a.scope.now knows a.row.now i replies)
    (c.participants.ensures ∙ ap (λ (m : Market). m.participants) planned.market)))
    c.in_ok-write_text.ensures.written (c.is_nothing-none.ensures ∙ ap is_nothing (c.deref.ensures.value ∙ sym c.deref-2.ensures.value))
