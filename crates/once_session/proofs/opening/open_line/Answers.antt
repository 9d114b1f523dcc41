use Rattle.std.proofs.Common.{◌≡◌, ◌-◌, ◌∙◌, ℕ, refl, subst, arith}
use Rattle.venue_world.specs.declared.world_event.SessionEvent.TheVariants.{Resumes}
use Rattle.venue_world.specs.Seen.{Shows}
use Rattle.venue_world.specs.World.{after_all}
use Rattle.once_session.specs.Stream.{cuts_behind}
use Rattle.once_session.proofs.Beginning.{comes-up, cut-next}
use Rattle.once_session.proofs.Events.{alone-first}
use Rattle.once_session.proofs.opening.open_line.Goals as goal

pub loop-place-init : goal.loop-place-init
loop-place-init c = record { cut = λ r w shows. shows; same = refl; from = omega arith; within = omega (arith, c.requires.some) }

pub loop-place-preserved : goal.loop-place-preserved
loop-place-preserved c =
    let before = c.loop-place.invariant in
    record {
      cut = λ r w shows. cut-next r c.loop-place.world c.event.new.self w c.loop-place.place _ c.of.result before.from refl c.of.ensures (before.cut r w shows) (c.in_ok-event.ensures.ok r);
      same = c.event.ensures.sides ∙ before.same;
      from = omega (arith, before.from);
      within = omega (arith, c.loop-place-test.true);
    }

pub event-requires : goal.event-requires
event-requires c = omega (arith, c.of.ensures, c.loop-place-test.true, c.loop-place.invariant.same, c.requires.count)

pub event-requires-2 : goal.event-requires-2
event-requires-2 c = omega (arith, c.first.ensures, c.loop-place.invariant.same, c.requires.count, c.requires.some)

pub returns : goal.returns
returns c =
    let before = c.loop-place.invariant in
    let last : c.loop-place.place ≡ c.args.count = omega (arith, before.within, c.loop-place-test.false) in
    record {
      opened = λ r w shows.
          comes-up r c.args.at c.loop-place.world c.event-2.new.self w (c.args.count - 1)
          (subst (λ (n : ℕ). Shows c.loop-place.world (after_all r w (cuts_behind (n - 1)))) last (before.cut r w shows))
          (alone-first c.first.result (Resumes c.args.at) c.loop-place.world c.event-2.new.self c.first.ensures c.in_ok-event-2.ensures.ok r);
    }
