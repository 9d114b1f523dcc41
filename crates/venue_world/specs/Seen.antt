-- The model of a world, and the effect of an event.
use Rattle.std.specs.Prelude.{ℕ, ◌<◌, ◌≡◌, Result, Ok, Err, Bool, true, false, List, [], ◌∷◌, ◌++◌, Option, Some, None, length}
use Rattle.fix_session.specs.Reader.{Reader}
use Rattle.venue_rules.specs.declared.trail.EventFault.{EventFault}
use Rattle.venue_rules.specs.declared.trail.EventFault.TheVariants.{Behind, Due, Down, NoMemory, TrailRefused}
use Rattle.venue_rules.specs.declared.trail.TrailRow.{TrailRow}
use Rattle.venue_rules.specs.Kept.{IsRisen}
use Rattle.venue_rules.specs.Market.{Market}
use Rattle.venue_rules.specs.Run.{rows, run}
use Rattle.venue_core.specs.State.{VenueFacts}
use Rattle.venue_core.specs.VenueFacts.{IsStanding}
use Rattle.venue_world.specs.declared.world_event.WorldEvent.{WorldEvent}
use Rattle.venue_world.specs.declared.world_event.WorldEvent.TheVariants.{Alone, Takes, VenueTicks}
use Rattle.venue_world.specs.declared.world_event.SessionEvent.{SessionEvent}
use Rattle.venue_world.specs.declared.world_event.SessionEvent.TheVariants.{Pieces, Steps, Ticks, Collects}
use Rattle.venue_world.specs.declared.event.Event.{Event}
use Rattle.venue_world.specs.Acts.{act_of}
use Rattle.venue_world.specs.Side.{Side}
use Rattle.venue_world.specs.World.{WorldState, after_act, after_all, fresh_world, refusal}

-- the venue's market and its state; the keeper's rows, whether its store is clean and how often it refused; the count
-- of items; the last moment; and the participants' sides
pub record Seen : Type 0 where
  pub market : Market
  pub stands : VenueFacts
  pub rows : List TrailRow
  pub is_clean : Bool
  pub refused : ℕ
  pub count : ℕ
  pub moment : ℕ
  pub sides : List Side

-- The world's state: its venue is in the state of the items taken, its rows are theirs, unless the store failed, and
-- its sides are these.
pub record Shows (s : Seen) (w : WorldState) : Type 0 where
  pub market : s.market ≡ w.market
  pub history : IsStanding s.stands (run w.market w.items).history
  pub rows : s.is_clean ≡ true → s.rows ≡ rows w.items
  pub count : s.count ≡ length w.items
  pub moment : s.moment ≡ w.moment
  pub sides : s.sides ≡ w.sides

-- Of one event.

-- these acts of one side may allocate: a piece, a step, a tick and a collected reply
abbrev pub takes_memory : SessionEvent → Bool
takes_memory (Pieces bytes) = true
takes_memory (Steps t) = true
takes_memory (Ticks t) = true
takes_memory (Collects t) = true
takes_memory x = false

-- an act that may allocate; a break, a resume, a hand, a delivery and a cut do not
abbrev pub may_take_memory : WorldEvent → Bool
may_take_memory (Alone i x) = takes_memory x
may_take_memory (Takes i t) = true
may_take_memory (VenueTicks t) = true

-- an act of the venue, which alone records rows
abbrev pub is_of_venue : WorldEvent → Bool
is_of_venue (Alone i x) = false
is_of_venue (Takes i t) = true
is_of_venue (VenueTicks t) = true

-- the act is refused before any allocation
abbrev pub is_refused_first : Option EventFault → Bool
is_refused_first (Some Due) = true
is_refused_first (Some (Down j)) = true
is_refused_first refusal = false

-- why an act failed: its refusal; the trail, whose count of refusals rose, as for no other cause; or an allocation
-- failure, where the act may take memory
abbrev pub IsCause : Option EventFault → WorldEvent → ℕ → ℕ → EventFault → Type 0
IsCause refusal a refused refused' NoMemory = (may_take_memory a ≡ true) × (is_refused_first refusal ≡ false) × (refused' ≡ refused)
IsCause refusal a refused refused' TrailRefused = (refusal ≡ None) × IsRisen refused refused' × (is_of_venue a ≡ true)
IsCause refusal a refused refused' (Behind j) = (refusal ≡ Some (Behind j)) × (refused' ≡ refused)
IsCause refusal a refused refused' (Down j) = (refusal ≡ Some (Down j)) × (refused' ≡ refused)
IsCause refusal a refused refused' Due = (refusal ≡ Some Due) × (refused' ≡ refused)

-- an act was done to a world that this showed: it was not refused, the model is that of the world after it, and the
-- keeper refused nothing
pub record WasDone (r : Reader) (a : WorldEvent) (w : WorldState) (s s' : Seen) : Type 0 where
  pub shows : Shows s' (after_act r w a)
  pub allowed : refusal w a ≡ None
  pub refused : s'.refused ≡ s.refused

abbrev pub Done : Reader → WorldEvent → Seen → Seen → Type 0
Done r a s s' = (w : WorldState) → Shows s w → WasDone r a w s s'

-- an act failed: the state is as before, and there was a cause
pub record WasUndone (a : WorldEvent) (w : WorldState) (s s' : Seen) (fault : EventFault) : Type 0 where
  pub shows : Shows s' w
  pub cause : IsCause (refusal w a) a s.refused s'.refused fault

abbrev pub Undone : WorldEvent → Seen → Seen → EventFault → Type 0
Undone a s s' fault = (w : WorldState) → Shows s w → WasUndone a w s s' fault

-- an act names an existing participant
abbrev pub IsNamed : ℕ → WorldEvent → Type 0
IsNamed n (Alone i x) = i < n
IsNamed n (Takes i t) = i < n
IsNamed n (VenueTicks t) = Unit {0}

-- Of a list of events, each with its result.

abbrev pub AreNamed : ℕ → List Event → Type 0
AreNamed n [] = Unit {0}
AreNamed n (e ∷ events) = IsNamed n (act_of e) × AreNamed n events

-- the acts of the events with result Ok
abbrev pub happened : {A B : Type 0} → List (Result A B) → List Event → List WorldEvent
happened [] events = []
happened (Ok x ∷ results) [] = []
happened (Err x ∷ results) [] = []
happened (Ok x ∷ results) (e ∷ events) = act_of e ∷ happened results events
happened (Err x ∷ results) (e ∷ events) = happened results events

-- After these events a property of all acts holds: of any acts that led from a new world to the one before them,
-- followed by the events with result Ok.
abbrev pub Holds : {A : Type 0} → (Reader → Market → List WorldEvent → Type 0) → Seen → List (Result A EventFault) → List Event → Type 0
Holds P old results events = (r : Reader) (m : Market) (before : List WorldEvent) → Shows old (after_all r (fresh_world m) before) → P r m (before ++ happened results events)

-- the world is in the state after all acts
abbrev pub StandsAfter : Seen → Reader → Market → List WorldEvent → Type 0
StandsAfter s r m acts = Shows s (after_all r (fresh_world m) acts)
