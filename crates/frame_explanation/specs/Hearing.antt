-- What sessions and venue answer to a frame: the acts of a world that hear it, one after another, and no others.
use Rattle.std.specs.Prelude.{ℕ, zero, suc, ◌≡◌, List, [], ◌∷◌, ◌++◌, length, max, Bool, true, false, Option, Some, None, slice_get}
use Rattle.fix_session.specs.Machine.{step}
use Rattle.fix_session.specs.Reader.{Reader}
use Rattle.fix_session.specs.declared.plan.Step.{Step}
use Rattle.venue_world.specs.declared.world_event.WorldEvent.{WorldEvent}
use Rattle.venue_world.specs.declared.world_event.WorldEvent.TheVariants.{Alone, Takes, VenueTicks}
use Rattle.venue_world.specs.declared.world_event.SessionEvent.TheVariants.{Pieces, Steps, Breaks, Resumes, Hands, Delivers, Collects, Writes}
use Rattle.venue_world.specs.Seen.{Seen, Shows}
use Rattle.venue_world.specs.Side.{Side}
use Rattle.venue_world.specs.World.{WorldState, after_act, after_all, refusal}
use Rattle.frame_explanation.specs.declared.log_items.Source.{Source}
use Rattle.frame_explanation.specs.declared.log_items.Source.TheVariants as source
use Rattle.frame_explanation.specs.declared.log_items.LogItem.{LogItem}
use Rattle.frame_explanation.specs.declared.log_items.Heard.{Heard}
use Rattle.frame_explanation.specs.declared.log_items.Sent as held

-- some bytes, with the participant on whose line they go
abbrev pub OnLine : Type 0
OnLine = ℕ × List ℕ

-- the answers of the sessions to their steps
abbrev pub answer_of : Reader → ℕ → Option Side → List Step
answer_of r t None = []
answer_of r t (Some s) = (step r s.session (max s.moment t)).1 ∷ []

abbrev pub answers_by : Reader → WorldState → WorldEvent → List Step
answers_by r w (Alone k (Steps t)) = answer_of r t (slice_get w.sides k)
answers_by r w a = []

abbrev pub answers : Reader → WorldState → List WorldEvent → List Step
answers r w [] = []
answers r w (a ∷ acts) = answers_by r w a ++ answers r (after_act r w a) acts

-- the bytes that were queued for the lines, as they are taken
abbrev pub wire_of : Option Side → List ℕ
wire_of None = []
wire_of (Some s) = s.session.wire

abbrev pub given_by : WorldState → WorldEvent → List OnLine
given_by w (Alone k Writes) = (k, wire_of (slice_get w.sides k)) ∷ []
given_by w a = []

abbrev pub given : Reader → WorldState → List WorldEvent → List OnLine
given r w [] = []
given r w (a ∷ acts) = given_by w a ++ given r (after_act r w a) acts

-- none of the acts is refused
abbrev pub AreAllowed : Reader → WorldState → List WorldEvent → Type 0
AreAllowed r w [] = Unit {0}
AreAllowed r w (a ∷ acts) = (refusal w a ≡ None) × AreAllowed r (after_act r w a) acts

-- These acts lead from one state of the world to another, with these answers of sessions, and these bytes for lines.
pub record Did (old new : Seen) (acts : List WorldEvent) (steps : List Step) (sent : List OnLine) : Type 0 where
  pub allowed : (r : Reader) (w : WorldState) → Shows old w → AreAllowed r w acts
  pub shows : (r : Reader) (w : WorldState) → Shows old w → Shows new (after_all r w acts)
  pub answers_are : (r : Reader) (w : WorldState) → Shows old w → answers r w acts ≡ steps
  pub given_are : (r : Reader) (w : WorldState) → Shows old w → given r w acts ≡ sent

-- a new connection, where one begins
abbrev pub connects : Bool → (who t : ℕ) → List WorldEvent
connects true who t = Alone who Breaks ∷ Alone who (Resumes t) ∷ []
connects false who t = []

-- the bytes arrive, and the session processes a frame
abbrev pub arrives : (who t : ℕ) → List ℕ → List WorldEvent
arrives who t text = Alone who (Pieces text) ∷ Alone who (Steps t) ∷ []

-- this number of held sides that are due enter
abbrev pub ticks : (count t : ℕ) → List WorldEvent
ticks zero t = []
ticks (suc n) t = VenueTicks t ∷ ticks n t

-- the message that is ready moves to the venue's seat; what is due enters; and then the venue takes the message
abbrev pub takes : (due who t : ℕ) → List WorldEvent
takes due who t = Alone who Hands ∷ (ticks due t ++ Takes who t ∷ [])

-- one of these: the take, or the entry of a held side that is due before it
abbrev pub take_or_tick : Bool → (who t : ℕ) → List WorldEvent
take_or_tick true who t = Takes who t ∷ []
take_or_tick false who t = VenueTicks t ∷ []

-- a session sends this number of replies
abbrev pub replies : (count who t : ℕ) → List WorldEvent
replies zero who t = []
replies (suc n) who t = Alone who Delivers ∷ Alone who (Collects t) ∷ replies n who t

-- the number of replies that wait
abbrev pub waiting_at : Option Side → ℕ
waiting_at None = 0
waiting_at (Some s) = length s.queue

abbrev pub waiting : List Side → ℕ → ℕ
waiting sides who = waiting_at (slice_get sides who)

-- a participant's session sends all replies that wait, and the bytes for its line are taken
abbrev pub Sends : (t : ℕ) (old new : Seen) (who : ℕ) (bytes : List ℕ) → Type 0
Sends t old new who bytes = Did old new (replies (waiting old.sides who) who t ++ Alone who Writes ∷ []) [] ((who, bytes) ∷ [])

-- each participant's does, in order, from a place on
abbrev pub SendsEach : (t who : ℕ) (old new : Seen) → List held.Sent → Type 0
SendsEach t who old new [] = old ≡ new
SendsEach t who old new (s ∷ sent) = (s.to ≡ who) × (mid : Seen) × Sends t old mid who s.bytes.items × SendsEach t (suc who) mid new sent

-- A session hears a frame, with this result; the venue takes its message, if it is one; and all replies are sent.
pub record HearsFrame (old new : Seen) (listed : LogItem) (answer : Step) (sent : List held.Sent) : Type 0 where
  pub heard : Seen
  pub taken : Seen
  pub due : ℕ
  pub arriving : Did old heard (connects listed.connects listed.who listed.moment ++ arrives listed.who listed.moment listed.text.items) (answer ∷ []) []
  pub taking : Did heard taken (takes due listed.who listed.moment) [] []
  pub sending : SendsEach listed.moment 0 taken new sent
  pub each : length sent ≡ length taken.sides

abbrev pub HearsIf : (old new : Seen) → LogItem → Option Step → List held.Sent → Type 0
HearsIf old new listed None sent = ⊥
HearsIf old new listed (Some answer) sent = HearsFrame old new listed answer sent

abbrev pub IsUnheard : (old new : Seen) → Option Step → List held.Sent → Type 0
IsUnheard old new answer sent = (old ≡ new) × (answer ≡ None) × (sent ≡ [])

-- frames of participants, and those that are assumed, are heard; nothing else is
abbrev pub HearsAs : Source → (old new : Seen) → LogItem → Option Step → List held.Sent → Type 0
HearsAs source.Participant old new listed answer sent = HearsIf old new listed answer sent
HearsAs source.Assumed old new listed answer sent = HearsIf old new listed answer sent
HearsAs source.Venue old new listed answer sent = IsUnheard old new answer sent
HearsAs source.Broken old new listed answer sent = IsUnheard old new answer sent

abbrev pub HearsOne : (old new : Seen) → Heard → Type 0
HearsOne old new heard = HearsAs heard.item.source old new heard.item heard.step heard.sent.items

-- all that is listed, in order
abbrev pub HearsAll : (old new : Seen) → List Heard → Type 0
HearsAll old new [] = old ≡ new
HearsAll old new (h ∷ heard) = (mid : Seen) × HearsOne old mid h × HearsAll mid new heard

abbrev pub item_of : Heard → LogItem
item_of heard = heard.item
