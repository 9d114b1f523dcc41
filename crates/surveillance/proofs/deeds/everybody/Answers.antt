use Rattle.std.proofs.Common.{ℕ, ◌<◌, length, subst}
use Rattle.surveillance.specs.Deeds.{places_from}
use Rattle.surveillance.proofs.Places.{places_on}
use Rattle.surveillance.proofs.deeds.everybody.Goals as goal

pub loop-place-preserved : goal.loop-place-preserved
loop-place-preserved c =
    let n = length c.args.participants.now.names in
    places_on c.loop-place.place n c.of.result c.loop-place.places.items c.push.new.self.items (places_from 0 n)
    (subst (λ (m : ℕ). c.loop-place.place < m) c.len-place-end.ensures.count c.loop-place-test.true) c.of.ensures c.in_ok-push.ensures.items c.loop-place.invariant
