use Rattle.std.proofs.Common.{◌≡◌, rules, subst, sym, ◌∙◌}
use Rattle.trail_digest.specs.Trail.{Trail}
use Rattle.trail_questions.specs.Ending.{Fails, market_of}
use Rattle.trail_questions.specs.Question.{BeginsAsked, DiffersAsked, EmitsAsked, IsUnknownAsked}
use Rattle.sef_replay.specs.Asked.{IsRefusalKept}
use Rattle.sef_replay.proofs.Asked.{begun_kept, emitted_kept, refused_kept, relent}
use Rattle.sef_replay.proofs.asking.print_kept.Goals as goal

pub returns-in-Ok-clause-emitted : goal.returns-in-Ok-clause-emitted
returns-in-Ok-clause-emitted g c clean =
    let day = c.in_ok-participants in
    let files : c.files.result.now ≡ c.args.trail.now.files = search rules in
    let delays : c.delays.result.now ≡ c.args.trail.now.delays = search rules in
    emitted_kept c.args.question.now c.args.trail.now.files c.args.trail.now.delays _ c.as_slice.result.now day.field-0.participants day.field-0.instruments (g.W.Write.contents c.args.writer.now) (g.W.Write.contents c.print_lent-printed.new.writer) day.ensures.kept
    (c.as_slice.ensures.value ∙ day.ensures.rows clean)
    (relent (λ (t : Trail). EmitsAsked c.args.question.now (market_of day.field-0.participants day.field-0.instruments) t (g.W.Write.contents c.args.writer.now) (g.W.Write.contents c.print_lent-printed.new.writer)) c.args.trail.now.files c.files.result.now c.args.trail.now.delays c.delays.result.now c.as_slice.result.now files delays c.in-Ok.ensures.emitted)

pub returns-in-Err-clause-refused : goal.returns-in-Err-clause-refused
returns-in-Err-clause-refused g c clean =
    let day = c.in_ok-participants in
    let files : c.files.result.now ≡ c.args.trail.now.files = search rules in
    let delays : c.delays.result.now ≡ c.args.trail.now.delays = search rules in
    subst (IsRefusalKept c.args.question.now (g.W.Write.contents c.args.writer.now) (g.W.Write.contents c.print_lent-printed.new.writer) c.args.trail.now.files c.args.trail.now.delays _) (sym c.from.ensures)
    (refused_kept c.args.question.now c.args.trail.now.files c.args.trail.now.delays _ c.as_slice.result.now day.field-0.participants day.field-0.instruments (g.W.Write.contents c.args.writer.now) (g.W.Write.contents c.print_lent-printed.new.writer) c.in-Err.fault day.ensures.kept
    (c.as_slice.ensures.value ∙ day.ensures.rows clean)
    (relent (λ (t : Trail). Fails (BeginsAsked c.args.question.now (market_of day.field-0.participants day.field-0.instruments) t (g.W.Write.contents c.args.writer.now) (g.W.Write.contents c.print_lent-printed.new.writer))
    (DiffersAsked c.args.question.now (market_of day.field-0.participants day.field-0.instruments) t (g.W.Write.contents c.args.writer.now) (g.W.Write.contents c.print_lent-printed.new.writer))
    (IsUnknownAsked c.args.question.now (market_of day.field-0.participants day.field-0.instruments) t) (g.W.Write.contents c.args.writer.now) (g.W.Write.contents c.print_lent-printed.new.writer) c.in-Err.fault) c.args.trail.now.files c.files.result.now c.args.trail.now.delays c.delays.result.now c.as_slice.result.now files delays c.in-Err.ensures.failed))

pub returns-in-Err-clause-begun : goal.returns-in-Err-clause-begun
returns-in-Err-clause-begun g c clean is =
    let day = c.in_ok-participants in
    let files : c.files.result.now ≡ c.args.trail.now.files = search rules in
    let delays : c.delays.result.now ≡ c.args.trail.now.delays = search rules in
    begun_kept c.args.question.now c.args.trail.now.files c.args.trail.now.delays _ c.as_slice.result.now day.field-0.participants day.field-0.instruments (g.W.Write.contents c.args.writer.now) (g.W.Write.contents c.print_lent-printed.new.writer) c.in-Err.fault day.ensures.kept
    (c.as_slice.ensures.value ∙ day.ensures.rows clean)
    (relent (λ (t : Trail). Fails (BeginsAsked c.args.question.now (market_of day.field-0.participants day.field-0.instruments) t (g.W.Write.contents c.args.writer.now) (g.W.Write.contents c.print_lent-printed.new.writer))
    (DiffersAsked c.args.question.now (market_of day.field-0.participants day.field-0.instruments) t (g.W.Write.contents c.args.writer.now) (g.W.Write.contents c.print_lent-printed.new.writer))
    (IsUnknownAsked c.args.question.now (market_of day.field-0.participants day.field-0.instruments) t) (g.W.Write.contents c.args.writer.now) (g.W.Write.contents c.print_lent-printed.new.writer) c.in-Err.fault) c.args.trail.now.files c.files.result.now c.args.trail.now.delays c.delays.result.now c.as_slice.result.now files delays c.in-Err.ensures.failed)
    (sym c.from.ensures ∙ is)
