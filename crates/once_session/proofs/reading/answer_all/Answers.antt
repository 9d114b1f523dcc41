use Rattle.std.proofs.Common.{[], subst, sym, arith}
use Rattle.std.proofs.KnownBytes.{Consumes-nil}
use Rattle.std.proofs.lemmas.Result.{err_from_is_err_and}
use Rattle.venue_world.specs.Seen.{Seen}
use Rattle.once_session.specs.Acts.{OfFirst}
use Rattle.once_session.specs.Course.{IsAllHeard, WroteOn}
use Rattle.once_session.specs.Outcome.{UnlessOutput}
use Rattle.once_session.specs.Reading.{Halts, IsEnd, IsMore, IsRead}
use Rattle.once_session.proofs.Going.{somewhere-then, wrote-kept, wrote-nil}
use Rattle.once_session.proofs.Outcomes.{if_err, on_ok, unless_any, unless_output}
use Rattle.once_session.proofs.Pieces.{read-out, so-far-ended, so-far-halts, so-far-more, so-far-none}
use Rattle.once_session.proofs.reading.answer_all.Goals as goal

pub loop-read-init : goal.loop-read-init
loop-read-init g c = record {
  so_far = so-far-none c.args.at c.args.world.now (g.R.Read.remaining c.args.reader.now) (g.W.Write.contents c.args.writer.now);
  answered = c.requires.answered;
}

pub answer_frames-requires-clause-somewhere : goal.answer_frames-requires-clause-somewhere
answer_frames-requires-clause-somewhere g c =
    let so_far = c.loop-read.invariant.so_far in
    somewhere-then c.one_reader.ensures.some c.args.at c.args.world.now c.loop-read.world so_far.came so_far.wrote.given so_far.wrote.went c.requires.somewhere

pub read_piece-requires-clause-somewhere : goal.read_piece-requires-clause-somewhere
read_piece-requires-clause-somewhere g c =
    let so_far = c.loop-read.invariant.so_far in
    let here = somewhere-then c.one_reader.ensures.some c.args.at c.args.world.now c.loop-read.world so_far.came so_far.wrote.given so_far.wrote.went c.requires.somewhere in
    let wrote = c.in_ok-answer_frames.ensures.wrote in
    somewhere-then c.one_reader.ensures.some c.args.at c.loop-read.world c.answer_frames.new.world [] wrote.given wrote.went here

pub loop-read-preserved : goal.loop-read-preserved
loop-read-preserved g c =
    let left0 = g.R.Read.remaining c.args.reader.now in
    let left = g.R.Read.remaining c.loop-read.reader in
    let left' = g.R.Read.remaining c.read_piece.new.reader in
    let held0 = g.W.Write.contents c.args.writer.now in
    let held1 = g.W.Write.contents c.loop-read.writer in
    let held2 = g.W.Write.contents c.answer_frames.new.writer in
    let answered = c.answer_frames.new.world in
    let last = c.read_piece.new.world in
    let more : IsMore answered last left left' = subst (IsRead answered last left left') c.if-not-more.false c.in_ok-more.ensures.read in
    record {
      so_far = so-far-more c.args.at c.args.world.now c.loop-read.world answered last left0 left left' held0 held1 held2 c.loop-read.invariant.so_far c.in_ok-answer_frames.ensures.wrote more;
      answered = c.in_ok-more.ensures.answered;
    }

pub returns-in_err-answer_frames-clause-stopped : goal.returns-in_err-answer_frames-clause-stopped
returns-in_err-answer_frames-clause-stopped g c =
    let t = c.args.at in
    let old = c.args.world.now in
    let mid = c.loop-read.world in
    let left0 = g.R.Read.remaining c.args.reader.now in
    let left = g.R.Read.remaining c.loop-read.reader in
    let held0 = g.W.Write.contents c.args.writer.now in
    let held1 = g.W.Write.contents c.loop-read.writer in
    let held2 = g.W.Write.contents c.answer_frames.new.writer in
    let p = err_from_is_err_and c.from_residual.result c.from_residual.ensures.1 in
    rw (p.1, p.2) (unless_output c.in_err-answer_frames.field-0.0 (WroteOn t mid [] held1 held2) (Halts t old left0 left held0 held2)
    (λ on. so-far-halts t old mid on.then left0 left left held0 held1 held2 [] c.loop-read.invariant.so_far on.wrote (Consumes-nil left) (omega arith))
    c.in_err-answer_frames.ensures.stopped)

pub returns-in_err-more-clause-stopped : goal.returns-in_err-more-clause-stopped
returns-in_err-more-clause-stopped g c =
    let t = c.args.at in
    let old = c.args.world.now in
    let mid = c.loop-read.world in
    let left0 = g.R.Read.remaining c.args.reader.now in
    let left = g.R.Read.remaining c.loop-read.reader in
    let left' = g.R.Read.remaining c.read_piece.new.reader in
    let held0 = g.W.Write.contents c.args.writer.now in
    let held1 = g.W.Write.contents c.loop-read.writer in
    let held2 = g.W.Write.contents c.answer_frames.new.writer in
    let lost = c.in_err-more.ensures.lost in
    let Q : Type 0 = Halts t old left0 left' held0 held2 in
    let stopped : Q = so-far-halts t old mid c.answer_frames.new.world left0 left left' held0 held1 held2 lost.piece c.loop-read.invariant.so_far c.in_ok-answer_frames.ensures.wrote lost.consumed lost.short in
    if_err c.from_residual-in_err-more.result (λ fault. UnlessOutput fault Q) (λ fault. unless_any fault Q stopped)

pub returns-then-not-more-clause-wrote : goal.returns-then-not-more-clause-wrote
returns-then-not-more-clause-wrote g c =
    let left0 = g.R.Read.remaining c.args.reader.now in
    let left = g.R.Read.remaining c.loop-read.reader in
    let left' = g.R.Read.remaining c.read_piece.new.reader in
    let held0 = g.W.Write.contents c.args.writer.now in
    let held1 = g.W.Write.contents c.loop-read.writer in
    let held2 = g.W.Write.contents c.answer_frames.new.writer in
    let held' = g.W.Write.contents c.flush.new.writer in
    let answered = c.answer_frames.new.world in
    let last = c.read_piece.new.world in
    let end : IsEnd answered last left left' = subst (IsRead answered last left left') c.if-not-more.true c.in_ok-more.ensures.read in
    on_ok c.flush.result _
    (so-far-ended c.args.at c.args.world.now c.loop-read.world answered last left0 left left' held0 held1 held2 held' c.loop-read.invariant.so_far c.in_ok-answer_frames.ensures.wrote end c.flush.ensures)

pub returns-then-not-more-clause-answered : goal.returns-then-not-more-clause-answered
returns-then-not-more-clause-answered g c = on_ok c.flush.result _ c.in_ok-more.ensures.answered

pub returns-then-not-more-clause-heard : goal.returns-then-not-more-clause-heard
returns-then-not-more-clause-heard g c =
    let left = g.R.Read.remaining c.loop-read.reader in
    let left' = g.R.Read.remaining c.read_piece.new.reader in
    let answered = c.answer_frames.new.world in
    let last = c.read_piece.new.world in
    let end : IsEnd answered last left left' = subst (IsRead answered last left left') c.if-not-more.true c.in_ok-more.ensures.read in
    on_ok c.flush.result _ (subst (λ (x : Seen). OfFirst IsAllHeard x.sides) (sym end.same) c.in_ok-answer_frames.ensures.heard)

pub returns-then-not-more-clause-ended : goal.returns-then-not-more-clause-ended
returns-then-not-more-clause-ended g c =
    let left0 = g.R.Read.remaining c.args.reader.now in
    let left = g.R.Read.remaining c.loop-read.reader in
    let left' = g.R.Read.remaining c.read_piece.new.reader in
    let held0 = g.W.Write.contents c.args.writer.now in
    let held1 = g.W.Write.contents c.loop-read.writer in
    let answered = c.answer_frames.new.world in
    let last = c.read_piece.new.world in
    let end : IsEnd answered last left left' = subst (IsRead answered last left left') c.if-not-more.true c.in_ok-more.ensures.read in
    on_ok c.flush.result _ (read-out c.args.at c.args.world.now c.loop-read.world answered last left0 left left' held0 held1 c.loop-read.invariant.so_far end)

pub returns-then-not-more-clause-stopped : goal.returns-then-not-more-clause-stopped
returns-then-not-more-clause-stopped g c =
    let t = c.args.at in
    let old = c.args.world.now in
    let mid = c.loop-read.world in
    let left0 = g.R.Read.remaining c.args.reader.now in
    let left = g.R.Read.remaining c.loop-read.reader in
    let left' = g.R.Read.remaining c.read_piece.new.reader in
    let held0 = g.W.Write.contents c.args.writer.now in
    let held1 = g.W.Write.contents c.loop-read.writer in
    let held2 = g.W.Write.contents c.answer_frames.new.writer in
    let held' = g.W.Write.contents c.flush.new.writer in
    let answered = c.answer_frames.new.world in
    let last = c.read_piece.new.world in
    let end : IsEnd answered last left left' = subst (IsRead answered last left left') c.if-not-more.true c.in_ok-more.ensures.read in
    let wrote = wrote-kept t mid answered [] held1 held2 held' c.in_ok-answer_frames.ensures.wrote c.flush.ensures in
    let Q : Type 0 = Halts t old left0 left' held0 held' in
    let stopped : Q = so-far-halts t old mid answered left0 left left' held0 held1 held' [] c.loop-read.invariant.so_far wrote end.consumed (omega arith) in
    if_err c.flush.result (λ fault. UnlessOutput fault Q) (λ fault. unless_any fault Q stopped)

pub returns-clause-stopped : goal.returns-clause-stopped
returns-clause-stopped g c =
    let left = g.R.Read.remaining c.loop-read.reader in
    let held = g.W.Write.contents c.loop-read.writer in
    so-far-halts c.args.at c.args.world.now c.loop-read.world c.loop-read.world (g.R.Read.remaining c.args.reader.now) left left (g.W.Write.contents c.args.writer.now) held held [] c.loop-read.invariant.so_far
    (wrote-nil c.args.at c.loop-read.world held) (Consumes-nil left) (omega arith)
