use Rattle.std.proofs.Common.{◌<◌, ◌∙◌, ℕ, List, IfSome, sym, subst}
use Rattle.std.specs.Io.KnownBytes.{Appends}
use Rattle.std.proofs.lemmas.Result.{err_from_is_err_and}
use Rattle.fix_session.specs.Reader.{Reader}
use Rattle.venue_rules.specs.Market.{Market}
use Rattle.venue_world.specs.Seen.{Shows}
use Rattle.venue_world.specs.World.{after_all, fresh_world}
use Rattle.once_session.specs.Acts.{IsAnswered, OfFirst}
use Rattle.once_session.specs.Course.{Wrote}
use Rattle.once_session.specs.Outcome.{UnlessOutput}
use Rattle.once_session.specs.Reading.{Halts}
use Rattle.once_session.specs.Stream.{AnswersStream, Stopped, opened, opening}
use Rattle.once_session.proofs.Beginning.{opened-answered}
use Rattle.once_session.proofs.Outcomes.{all_ok, if_err, so_err, so_some, unless_any, unless_output}
use Rattle.once_session.proofs.Streams.{answers-stream, stopped-at, stopped-at-once}
use Rattle.once_session.proofs.stream.answer_stream.Goals as goal

pub returns-in_err-world-clause-stopped : goal.returns-in_err-world-clause-stopped
returns-in_err-world-clause-stopped g c =
    let market : Market = record { participants = c.args.participants; instruments = c.args.instruments } in
    let p = err_from_is_err_and c.from_residual.result c.from_residual.ensures.1 in
    rw (p.1, p.2) (λ r. stopped-at-once r market c.args.at (g.R.Read.remaining c.args.reader.now) (g.W.Write.contents c.args.writer.now))

pub returns-in_err-open_line-clause-stopped : goal.returns-in_err-open_line-clause-stopped
returns-in_err-open_line-clause-stopped g c =
    let market : Market = record { participants = c.args.participants; instruments = c.args.instruments } in
    let left = g.R.Read.remaining c.args.reader.now in
    let held = g.W.Write.contents c.args.writer.now in
    let Q : Type 0 = (r : Reader) → Stopped r market c.args.at left left held held in
    if_err c.from_residual-in_err-open_line.result (λ fault. UnlessOutput fault Q) (λ fault. unless_any fault Q (λ r. stopped-at-once r market c.args.at left held))

pub open_line-requires-clause-count : goal.open_line-requires-clause-count
open_line-requires-clause-count g c = c.count_of-count.ensures.count ∙ sym c.in_ok-world.ensures.sides

pub open_line-requires-clause-some : goal.open_line-requires-clause-some
open_line-requires-clause-some g c = c.count_of-count.ensures.some

pub answer_all-requires-clause-somewhere : goal.answer_all-requires-clause-somewhere
answer_all-requires-clause-somewhere g c =
    let market : Market = record { participants = c.args.participants; instruments = c.args.instruments } in
    let r = c.one_reader.ensures.some in
    let shows = subst (λ (n : ℕ). Shows c.open_line.new.world (after_all r (fresh_world market) (opening n c.args.at))) c.count_of-count.ensures.count
    (c.in_ok-open_line.ensures.opened r (fresh_world market) c.in_ok-world.ensures.fresh) in
    (opened r market c.args.at, shows)

pub answer_all-requires-clause-answered : goal.answer_all-requires-clause-answered
answer_all-requires-clause-answered g c =
    let market : Market = record { participants = c.args.participants; instruments = c.args.instruments } in
    let r = c.one_reader.ensures.some in
    let shows = subst (λ (n : ℕ). Shows c.open_line.new.world (after_all r (fresh_world market) (opening n c.args.at))) c.count_of-count.ensures.count
    (c.in_ok-open_line.ensures.opened r (fresh_world market) c.in_ok-world.ensures.fresh) in
    subst (OfFirst IsAnswered) (sym shows.sides) (opened-answered r market c.args.at (subst (λ (n : ℕ). 0 < n) c.count_of-count.ensures.count c.count_of-count.ensures.some))

pub returns-clause-answered : goal.returns-clause-answered
returns-clause-answered g c =
    let market : Market = record { participants = c.args.participants; instruments = c.args.instruments } in
    let t = c.args.at in
    let left = g.R.Read.remaining c.args.reader.now in
    let held = g.W.Write.contents c.args.writer.now in
    let held' = g.W.Write.contents c.answer_all.new.writer in
    let old = c.open_line.new.world in
    let new = c.answer_all.new.world in
    all_ok c.answer_all.result _ _ _ ((r : Reader) → IfSome left (λ input. (output : List ℕ) × AnswersStream r market t input output × Appends held held' output))
    (λ wrote answered heard r.
    so_some left (λ input. Wrote t old new input held held') (λ input. (output : List ℕ) × AnswersStream r market t input output × Appends held held' output)
    (λ input more.
    answers-stream c.every_world_keeps_its_word.ensures c.wires_lose_nothing.ensures r market t old new input held held'
    (subst (λ (n : ℕ). Shows old (after_all r (fresh_world market) (opening n t))) c.count_of-count.ensures.count (c.in_ok-open_line.ensures.opened r (fresh_world market) c.in_ok-world.ensures.fresh))
    answered heard more)
    wrote)
    c.answer_all.ensures.wrote c.answer_all.ensures.answered c.answer_all.ensures.heard

pub returns-clause-stopped : goal.returns-clause-stopped
returns-clause-stopped g c =
    let market : Market = record { participants = c.args.participants; instruments = c.args.instruments } in
    let t = c.args.at in
    let left = g.R.Read.remaining c.args.reader.now in
    let left' = g.R.Read.remaining c.answer_all.new.reader in
    let held = g.W.Write.contents c.args.writer.now in
    let held' = g.W.Write.contents c.answer_all.new.writer in
    let old = c.open_line.new.world in
    let Q : Type 0 = (r : Reader) → Stopped r market t left left' held held' in
    so_err c.answer_all.result (λ fault. UnlessOutput fault (Halts t old left left' held held')) (λ fault. UnlessOutput fault Q)
    (λ fault.
    unless_output fault (Halts t old left left' held held') Q
    (λ halts r.
    stopped-at r market t old left left' held held'
    (subst (λ (n : ℕ). Shows old (after_all r (fresh_world market) (opening n t))) c.count_of-count.ensures.count (c.in_ok-open_line.ensures.opened r (fresh_world market) c.in_ok-world.ensures.fresh))
    halts))
    c.answer_all.ensures.stopped
