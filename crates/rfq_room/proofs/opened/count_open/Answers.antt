use Rattle.std.proofs.Common.{ap, ℕ, if◌then◌else◌, arith}
use Rattle.rfq_room.specs.Openness.{is_still_open}
use Rattle.rfq_room.proofs.Clearing.{count-more}
use Rattle.rfq_room.proofs.opened.count_open.Goals as goal

pub loop-room-preserved : goal.loop-room-preserved
loop-room-preserved c = omega (arith, count-more (is_still_open c.args.known_flags.now.facts c.args.moment) c.args.rooms.now c.loop-room.room-index c.room-item.result c.loop-room-test.true c.room-item.is, c.counted-count.ensures.value, ap {B = ℕ} (λ b. if b then 1 else 0) c.is_still_open.ensures, c.counted-count.ensures.bound, c.loop-room.invariant)
