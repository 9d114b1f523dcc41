use Rattle.std.proofs.Common.{◌≡◌, ℕ, List, subst}
use Rattle.std.specs.Prelude.{OnOk}
use Rattle.venue_world.specs.Side.{does}
use Rattle.venue_world.specs.Slots.{side_of}
use Rattle.venue_world.specs.declared.world_event.SessionEvent.TheVariants.{Pieces}
use Rattle.venue_world.proofs.Slots.{cut_side, own_done, own_err, own_ok, own_still}
use Rattle.venue_world.proofs.session_event.does.Goals as goal

pub returns-in-Delivers-clause-ok : goal.returns-in-Delivers-clause-ok
returns-in-Delivers-clause-ok g c = rw c.in-Delivers.is c.deliver.ensures

pub returns-in-Cuts-clause-ok : goal.returns-in-Cuts-clause-ok
returns-in-Cuts-clause-ok g c = (let m = c.cut.ensures.cuts in rw c.in-Cuts.is (record { queue = m.0; queue' = m.1; here = m.2; engine = m.3; side = λ r. cut_side c.args.slot.now m.0 m.1 m.4 }))

pub returns-in-Pieces-clause-ok : goal.returns-in-Pieces-clause-ok
returns-in-Pieces-clause-ok g c =
    rw c.in-Pieces.is
    (own_ok c.receive.result c.args.place c.args.engine.now c.args.slot.now c.receive.new.slot _ c.requires
    (λ r q. subst (λ (bytes : List ℕ). OnOk c.receive.result (side_of c.receive.new.slot q ≡ does r (Pieces bytes) (side_of c.args.slot.now q))) c.as_slice.ensures (c.receive.ensures.ok r q)))

pub returns-in-Pieces-clause-err : goal.returns-in-Pieces-clause-err
returns-in-Pieces-clause-err g c = own_err c.receive.result c.args.place c.args.engine.now c.args.slot.now c.receive.new.slot c.requires c.receive.ensures.err

pub returns-in-Ticks-clause-ok : goal.returns-in-Ticks-clause-ok
returns-in-Ticks-clause-ok g c = rw c.in-Ticks.is (own_ok c.tick.result c.args.place c.args.engine.now c.args.slot.now c.tick.new.slot _ c.requires c.tick.ensures.ok)

pub returns-in-Ticks-clause-err : goal.returns-in-Ticks-clause-err
returns-in-Ticks-clause-err g c = own_err c.tick.result c.args.place c.args.engine.now c.args.slot.now c.tick.new.slot c.requires c.tick.ensures.err

pub returns-in-Collects-clause-ok : goal.returns-in-Collects-clause-ok
returns-in-Collects-clause-ok g c = rw c.in-Collects.is (own_ok c.collect.result c.args.place c.args.engine.now c.args.slot.now c.collect.new.slot _ c.requires c.collect.ensures.ok)

pub returns-in-Collects-clause-err : goal.returns-in-Collects-clause-err
returns-in-Collects-clause-err g c = own_err c.collect.result c.args.place c.args.engine.now c.args.slot.now c.collect.new.slot c.requires c.collect.ensures.err

pub returns-in-Breaks-clause-ok : goal.returns-in-Breaks-clause-ok
returns-in-Breaks-clause-ok g c = rw c.in-Breaks.is (own_done c.args.place c.args.engine.now c.args.slot.now c.drop_line.new.slot _ c.requires c.drop_line.ensures)

pub returns-in-Resumes-clause-ok : goal.returns-in-Resumes-clause-ok
returns-in-Resumes-clause-ok g c = rw c.in-Resumes.is (own_done c.args.place c.args.engine.now c.args.slot.now c.resume.new.slot _ c.requires c.resume.ensures)

pub returns-in-Hands-clause-ok : goal.returns-in-Hands-clause-ok
returns-in-Hands-clause-ok g c = rw c.in-Hands.is (own_done c.args.place c.args.engine.now c.args.slot.now c.hand.new.slot _ c.requires c.hand.ensures)

pub returns-in-Writes-clause-ok : goal.returns-in-Writes-clause-ok
returns-in-Writes-clause-ok g c = rw c.in-Writes.is (own_done c.args.place c.args.engine.now c.args.slot.now c.write-bytes.new.slot _ c.requires (λ r q. c.write-bytes.ensures.left q))

pub returns-in-Ok-clause-ok : goal.returns-in-Ok-clause-ok
returns-in-Ok-clause-ok g c = rw c.in-Steps.is (own_done c.args.place c.args.engine.now c.args.slot.now c.step.new.slot _ c.requires c.in-Ok.ensures.ok)

pub returns-in-Err-clause-err : goal.returns-in-Err-clause-err
returns-in-Err-clause-err g c = own_still c.args.place c.args.engine.now c.args.slot.now c.step.new.slot c.requires c.in-Err.ensures.err

pub returns-in-Collects-clause-allowed : goal.returns-in-Collects-clause-allowed
returns-in-Collects-clause-allowed g c = rw c.in-Collects.is c.collect.ensures.allowed

pub returns-in-Collects-clause-cause : goal.returns-in-Collects-clause-cause
returns-in-Collects-clause-cause g c = rw c.in-Collects.is c.collect.ensures.cause

pub returns-in-Pieces-clause-asked : goal.returns-in-Pieces-clause-asked
returns-in-Pieces-clause-asked g c = rw c.in-Pieces.is (λ r q. c.receive.ensures.up)

pub returns-in-Ticks-clause-asked : goal.returns-in-Ticks-clause-asked
returns-in-Ticks-clause-asked g c = rw c.in-Ticks.is (λ r q. c.tick.ensures.sends)

pub returns-in-Collects-clause-asked : goal.returns-in-Collects-clause-asked
returns-in-Collects-clause-asked g c = rw c.in-Collects.is (λ r q. c.collect.ensures.reply)

pub returns-in-Err-clause-asked : goal.returns-in-Err-clause-asked
returns-in-Err-clause-asked g c = rw c.in-Steps.is (λ r q. c.in-Err.ensures.frame r)
