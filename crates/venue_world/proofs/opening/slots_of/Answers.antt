use Rattle.std.proofs.Common.{◌<◌, length, take, arith, subst, sym}
use Rattle.venue_world.specs.Slots.{AreFreshSlots}
use Rattle.venue_world.proofs.Slots.{fresh_more}
use Rattle.venue_world.proofs.opening.slots_of.Goals as goal

pub loop-place-preserved : goal.loop-place-preserved
loop-place-preserved c =
    let file = c.args.participants.now in
    let k = c.loop-place.place in
    let low : k < length file.names = omega (arith, c.loop-place-test.true, c.len-count.ensures.count) in
    record {
      fresh = subst (AreFreshSlots file (take _ file.names)) (sym c.push_reserved.ensures.items)
          (fresh_more file c.loop-place.slots.items c.in_ok-slot.slot k c.of.result c.of.ensures low c.loop-place.invariant.fresh c.in_ok-slot.ensures);
      len = omega (arith, c.push_reserved.ensures.len, c.loop-place.invariant.len);
      room = omega (arith, c.push_reserved.ensures.capacity, c.loop-place.invariant.room);
    }
