-- Where an act may fail for memory: only where there are bytes to keep, a frame to hear, a message to send or an input
-- to answer.
use Rattle.std.specs.Prelude.{ℕ, ◌≡◌, true, max, List, [], ◌∷◌, Option, Some, None, IsSome, Result, Ok, Err, slice_get}
use Rattle.fix_session.specs.Machine.{HasFrame, tick}
use Rattle.fix_session.specs.Reader.{Reader}
use Rattle.fix_session.specs.declared.plan.Step.TheVariants.{Did}
use Rattle.outbound_queue.specs.declared.outgoing.Outgoing.{Outgoing}
use Rattle.outbound_queue.specs.declared.outgoing.Outgoing.TheVariants.{Message, Cut}
use Rattle.venue_engine.specs.Step.{IsDue}
use Rattle.venue_rules.specs.declared.trail.EventFault.{EventFault}
use Rattle.venue_rules.specs.declared.trail.EventFault.TheVariants.{NoMemory}
use Rattle.venue_world.specs.declared.world_event.WorldEvent.{WorldEvent}
use Rattle.venue_world.specs.declared.world_event.WorldEvent.TheVariants.{Alone, Takes, VenueTicks}
use Rattle.venue_world.specs.declared.world_event.SessionEvent.{SessionEvent}
use Rattle.venue_world.specs.declared.world_event.SessionEvent.TheVariants.{Pieces, Steps, Ticks, Collects}
use Rattle.venue_world.specs.Acts.{act_of}
use Rattle.venue_world.specs.declared.event.Event.{Event}
use Rattle.venue_world.specs.Seen.{Seen, Done, Undone}
use Rattle.venue_world.specs.Side.{Side}

-- a message waits in the reply seat
abbrev pub IsReply : Option Outgoing → Type 0
IsReply (Some (Message app)) = Unit {0}
IsReply (Some Cut) = ⊥
IsReply None = ⊥

-- an act of one side may fail: bytes arrive on an up line, a frame is unread on one, a tick sends a message, or a
-- message waits in the reply seat
abbrev pub MayFail : Reader → SessionEvent → Side → Type 0
MayFail r (Pieces bytes) s = s.session.line.up ≡ true
MayFail r (Steps t) s = HasFrame r s.session
MayFail r (Ticks t) s = (tick s.session (max s.moment t)).1 ≡ Did
MayFail r (Collects t) s = IsReply s.reply
MayFail r x s = ⊥

-- an act asks for memory; one of the venue takes a message that is in its seat, or enters a held side that is due
abbrev pub AsksMemory : Reader → WorldEvent → Seen → Type 0
AsksMemory r (Alone i x) s = (side : Side) → slice_get s.sides i ≡ Some side → MayFail r x side
AsksMemory r (Takes i t) s = (side : Side) → slice_get s.sides i ≡ Some side → IsSome side.seat
AsksMemory r (VenueTicks t) s = IsDue s.stands (max s.moment t) true

-- no other act fails for memory
abbrev pub HasAsked : Reader → WorldEvent → Seen → EventFault → Type 0
HasAsked r a s fault = fault ≡ NoMemory → AsksMemory r a s

-- The events were done one after another: each with result Ok had its effect; each fault changed nothing, and one for
-- memory came only where the act asked for some.
abbrev pub AreSteps : {A : Type 0} → Reader → Seen → List (Result A EventFault) → List Event → Seen → Type 0
AreSteps r s [] events s' = s ≡ s'
AreSteps r s (Ok x ∷ results) [] s' = ⊥
AreSteps r s (Err f ∷ results) [] s' = ⊥
AreSteps r s (Ok x ∷ results) (e ∷ events) s' = (between : Seen) × Done r (act_of e) s between × AreSteps r between results events s'
AreSteps r s (Err f ∷ results) (e ∷ events) s' = (between : Seen) × Undone (act_of e) s between f × HasAsked r (act_of e) s f × AreSteps r between results events s'
