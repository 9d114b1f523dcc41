use Rattle.std.proofs.Common.{◌≡◌, length, ap, refl, ◌∙◌, arith}
use Rattle.std.proofs.lemmas.List.{length-map}
use Rattle.trail_journal.specs.Journal.{Recording}
use Rattle.head_log.specs.Keeper.{HeadLog}
use Rattle.std.proofs.KnownBytes.{Keeps-refl}
use Rattle.venue_main.proofs.Closed.{served_of}
use Rattle.venue_main.proofs.Recorded.{recorded, unless_written}
use Rattle.venue_main.proofs.recording.serve_recorded.Goals as goal

pub returns-in-Ok-emit_read-clause-emitted : goal.returns-in-Ok-emit_read-clause-emitted
returns-in-Ok-emit_read-clause-emitted g c =
    let begun = c.in_ok-journal in
    let ended = c.in-Ok-serve_journal in
    let kept = c.into_journal-journal in
    let read = c.in-Ok-emit_read.ensures in
    let sessions = ended.ended.0.sessions in
    let long : length sessions.items ≡ c.len-sessions.result = omega (arith, c.len-sessions.ensures, sessions.ok.0) in
    let served = served_of c.args.service.turns _ _ _ _ _ _ refl (ap (λ (k : HeadLog g.row.S.Denot). k.journal.rows) c.new-measuring.ensures ∙ c.in-Ok.ensures.rows) ended.ensures.served in
    recorded g.S.Store c.args.service.turns _ _ c.args.files.now _ _ _ begun.journal kept.result c.emit_read.new.journal _ c.len-sessions.result c.into_connection.result
    begun.ensures.began begun.ensures.market served (length-map sessions.items _ ∙ long) (ap (λ (j : Recording g.row.S.Denot). j.rows) kept.ensures ∙ ap (λ (k : HeadLog g.row.S.Denot). k.journal.rows) c.journal_of-keeper.ensures) read.same read.shown read.emitted
    c.into_connection.ensures

-- nothing was written
pub returns-in-Err-clause-silent : goal.returns-in-Err-clause-silent
returns-in-Err-clause-silent g c = unless_written c.in-Err.fault _ (Keeps-refl (g.W.Write.contents c.args.output.now))

pub returns-in-Err-serve_journal-clause-silent : goal.returns-in-Err-serve_journal-clause-silent
returns-in-Err-serve_journal-clause-silent g c = unless_written c.in-Err-serve_journal.fault _ (Keeps-refl (g.W.Write.contents c.args.output.now))
