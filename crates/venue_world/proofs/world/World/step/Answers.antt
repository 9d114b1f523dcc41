use Rattle.std.proofs.Common.{◌≡◌, ◌≤◌, ◌<◌, ℕ, length, set, length-set, refl, sym, ap, subst, ◌∙◌, arith, Ok, Err}
use Rattle.std.specs.Prelude.{IfErr, OnOk, slice_get, Some}
use Rattle.venue_rules.specs.declared.trail.EventFault.{EventFault}
use Rattle.venue_world.specs.declared.world_event.WorldEvent.TheVariants.{Alone}
use Rattle.venue_world.specs.declared.world_event.SessionEvent.TheVariants.{Steps}
use Rattle.venue_world.specs.Memory.{HasAsked}
use Rattle.venue_world.specs.Seen.{Done, Seen, Undone}
use Rattle.venue_world.specs.Side.{does}
use Rattle.venue_world.specs.Slots.{seen, sides_of}
use Rattle.venue_world.specs.World.{at}
use Rattle.venue_world.proofs.Places.{length-sides, parts_at, read_at}
use Rattle.venue_world.proofs.Shows.{alone_err, alone_ok}
use Rattle.venue_world.proofs.Slots.{allowed_always, asked_at_slot, no_memory, own_err, own_ok, answer_of_slot}
use Rattle.venue_world.proofs.world.World.step.Goals as goal

pub invariant_of-self : goal.invariant_of-self
invariant_of-self g c =
    let inv = c.self.invariant in
    let l = c.self.inside.engine in
    let slots = c.self.inside.slots.items in
    (length-set slots c.place-place.result c.step.new.slot ∙ inv.0, subst (λ (n : ℕ). n ≤ 32) (sym (length-set slots c.place-place.result c.step.new.slot)) inv.1)

pub returns-clause-ok : goal.returns-clause-ok
returns-clause-ok g c = λ r.
    let inv = c.self.invariant in
    let l = c.self.inside.engine in
    let slots = c.self.inside.slots.items in
    let long = length-sides slots l.queues inv.0 in
    let seen_long = ap (λ (o : Seen). length o.sides) c.self.view_is in
    let is = c.place-place.ensures in
    let i = c.place-place.result in
    let low : i < length slots = omega (arith, c.requires, seen_long, long, is) in
    let low_queue : i < length l.queues = (let e = inv.0 in omega (arith, low, e)) in
    let d = c.index_mut.result.now in
    let d_at = read_at slots i d low c.index_mut.ensures.value in
    let d' = c.step.new.slot in
    subst (λ (n : ℕ). OnOk c.step.result (Done r (Alone n (Steps c.args.t)) c.args.self.now (seen l (set slots i d')))) is
    (subst (λ (o : Seen). OnOk c.step.result (Done r (Alone i (Steps c.args.t)) o (seen l (set slots i d')))) c.self.view_is
    (alone_ok r i (Steps c.args.t) l l slots d d' c.step.result d_at (own_ok c.step.result i l d d' (λ k. does k (Steps c.args.t)) low_queue c.step.ensures.ok) (λ q. allowed_always c.step.result _ refl)))

pub returns-clause-answer : goal.returns-clause-answer
returns-clause-answer g c = λ r s s_at.
    let inv = c.self.invariant in
    let l = c.self.inside.engine in
    let slots = c.self.inside.slots.items in
    let long = length-sides slots l.queues inv.0 in
    let seen_long = ap (λ (o : Seen). length o.sides) c.self.view_is in
    let is = c.place-place.ensures in
    let i = c.place-place.result in
    let low : i < length slots = omega (arith, c.requires, seen_long, long, is) in
    let low_queue : i < length l.queues = (let e = inv.0 in omega (arith, low, e)) in
    let d = c.index_mut.result.now in
    let d_at = read_at slots i d low c.index_mut.ensures.value in
    let p = parts_at slots l.queues i s (subst (λ (n : ℕ). slice_get (sides_of slots l.queues) n ≡ Some s) (sym is) (ap (λ (o : Seen). slice_get o.sides c.args.who) c.self.view_is ∙ s_at)) in
    answer_of_slot r c.args.t c.step.result slots i d p.0 p.1 s d_at p.2 p.4 (c.step.ensures.answer r)

pub returns-clause-err : goal.returns-clause-err
returns-clause-err g c =
    let inv = c.self.invariant in
    let l = c.self.inside.engine in
    let slots = c.self.inside.slots.items in
    let long = length-sides slots l.queues inv.0 in
    let seen_long = ap (λ (o : Seen). length o.sides) c.self.view_is in
    let is = c.place-place.ensures in
    let i = c.place-place.result in
    let low : i < length slots = omega (arith, c.requires, seen_long, long, is) in
    let low_queue : i < length l.queues = (let e = inv.0 in omega (arith, low, e)) in
    let d = c.index_mut.result.now in
    let d_at = read_at slots i d low c.index_mut.ensures.value in
    let d' = c.step.new.slot in
    subst (λ (n : ℕ). IfErr c.step.result (λ (fault : EventFault). Undone (Alone n (Steps c.args.t)) c.args.self.now (seen l (set slots i d')) fault)) is
    (subst (λ (o : Seen). IfErr c.step.result (λ (fault : EventFault). Undone (Alone i (Steps c.args.t)) o (seen l (set slots i d')) fault)) c.self.view_is
    (alone_err i (Steps c.args.t) l l slots d d' c.step.result d_at (own_err c.step.result i l d d' low_queue c.step.ensures.err) (λ q. no_memory c.step.result _ (Steps c.args.t) refl refl c.step.ensures.cause)))

pub returns-clause-sides : goal.returns-clause-sides
returns-clause-sides g c =
    let inv = c.self.invariant in
    let l = c.self.inside.engine in
    let slots = c.self.inside.slots.items in
    let d' = c.step.new.slot in
    let i = c.place-place.result in
    length-sides (set slots i d') l.queues (length-set slots i d' ∙ inv.0) ∙ length-set slots i d' ∙ sym (length-sides slots l.queues inv.0) ∙ ap (λ (o : Seen). length o.sides) c.self.view_is

pub index_mut-requires : goal.index_mut-requires
index_mut-requires g c =
    let inv = c.self.invariant in
    let slots = c.self.inside.slots.items in
    let long = length-sides slots c.self.inside.engine.queues inv.0 in
    let seen_long = ap (λ (o : Seen). length o.sides) c.self.view_is in
    let is = c.place-place.ensures in
    let ok = c.self.inside.slots.ok.0 in
    omega (arith, c.requires, seen_long, long, is, ok)

pub returns-clause-asked : goal.returns-clause-asked
returns-clause-asked g c = λ r.
    let inv = c.self.invariant in
    let l = c.self.inside.engine in
    let slots = c.self.inside.slots.items in
    let long = length-sides slots l.queues inv.0 in
    let seen_long = ap (λ (o : Seen). length o.sides) c.self.view_is in
    let is = c.place-place.ensures in
    let i = c.place-place.result in
    let low : i < length slots = omega (arith, c.requires, seen_long, long, is) in
    let d = c.index_mut.result.now in
    let d_at = read_at slots i d low c.index_mut.ensures.value in
    subst (λ (n : ℕ). IfErr c.step.result (λ (fault : EventFault). HasAsked r (Alone n (Steps c.args.t)) c.args.self.now fault)) is
    (subst (λ (o : Seen). IfErr c.step.result (λ (fault : EventFault). HasAsked r (Alone i (Steps c.args.t)) o fault)) c.self.view_is
    (asked_at_slot r (Steps c.args.t) c.step.result slots i d l.queues d_at (λ q. c.step.ensures.frame r)))
