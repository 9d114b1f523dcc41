-- A part of a run, from one state of a world to another.
use Rattle.std.specs.Prelude.{◌≡◌, ◌≤◌, ◌-◌, ℕ, List, [], ◌∷◌, Option, None, length}
use Rattle.std.specs.Io.KnownBytes.{Appends}
use Rattle.fix_session.specs.Machine.{AtEnd}
use Rattle.fix_session.specs.Reader.{Reader}
use Rattle.fix_session.specs.Shorter.{Shortens}
use Rattle.fix_session.specs.declared.plan.Step.{Step}
use Rattle.venue_world.specs.declared.world_event.WorldEvent.{WorldEvent}
use Rattle.venue_world.specs.Headline.{given_from}
use Rattle.venue_world.specs.Seen.{Seen, Shows}
use Rattle.venue_world.specs.Side.{Side}
use Rattle.venue_world.specs.World.{WorldState, after_all}
use Rattle.once_session.specs.Acts.{IsAnswered, IsHeardOut, Leads, pieces}

-- the world is in some state
abbrev pub IsSomewhere : Seen → Type 0
IsSomewhere world = (w : WorldState) × Shows world w

-- a relation of the first participant's side before and after
abbrev pub OfBoth : (Side → Side → Type 0) → List Side → List Side → Type 0
OfBoth P [] sides' = ⊥
OfBoth P (s ∷ sides) [] = ⊥
OfBoth P (s ∷ sides) (s' ∷ sides') = P s s'

-- possible acts lead from one to the other, with these bytes received and these given
pub record Went (t : ℕ) (old new : Seen) (came given : List ℕ) : Type 0 where
  pub acts : List WorldEvent
  pub leads : (r : Reader) (w : WorldState) → Shows old w → Leads r t w acts
  pub shows : (r : Reader) (w : WorldState) → Shows old w → Shows new (after_all r w acts)
  pub reads : pieces acts ≡ came
  pub gives : (r : Reader) (w : WorldState) → Shows old w → given_from r 0 w acts ≡ given

-- the bytes given were written
pub record Wrote (t : ℕ) (old new : Seen) (came : List ℕ) (held held' : Option (List ℕ)) : Type 0 where
  pub given : List ℕ
  pub went : Went t old new came given
  pub written : Appends held held' given

-- the same, to some state
pub record WroteOn (t : ℕ) (old : Seen) (came : List ℕ) (held held' : Option (List ℕ)) : Type 0 where
  pub then : Seen
  pub wrote : Wrote t old then came held held'

-- no more is unread than before, and a side without unread frames stays so
pub record IsKept (s s' : Side) : Type 0 where
  pub unread : length s'.session.unread ≤ length s.session.unread
  pub heard : (r : Reader) → IsHeardOut r s → IsHeardOut r s'

-- a frame was processed: its message may be ready, and nothing else waits
pub record IsHeard (s : Side) : Type 0 where
  pub one_ready : length s.session.ready ≤ 1
  pub none_in_seat : s.seat ≡ None
  pub none_queued : s.queue ≡ []
  pub no_reply : s.reply ≡ None

-- the message was taken
pub record IsTaken (s : Side) : Type 0 where
  pub none_ready : s.session.ready ≡ []
  pub none_in_seat : s.seat ≡ None
  pub no_reply : s.reply ≡ None

-- it was taken, and no frame was processed
pub record Takes (s s' : Side) : Type 0 where
  pub taken : IsTaken s'
  pub kept : IsKept s s'

-- no reply is in the seat
abbrev pub IsFree : Side → Type 0
IsFree s = s.reply ≡ None

-- replies were sent, and nothing else was done
pub record Replies (s s' : Side) : Type 0 where
  pub kept : IsKept s s'
  pub ready : s'.session.ready ≡ s.session.ready
  pub seat : s'.seat ≡ s.seat
  pub free : IsFree s'

-- so was the first that waited
pub record RepliesOnce (s s' : Side) : Type 0 where
  pub replies : Replies s s'
  pub fewer : length s'.queue ≡ length s.queue - 1

-- no reply waits
abbrev pub IsEmptied : Side → Type 0
IsEmptied s = s.queue ≡ []

-- each reply was sent
pub record IsSent (s : Side) : Type 0 where
  pub taken : IsTaken s
  pub none_queued : s.queue ≡ []

-- a step that did something leaves less unread
abbrev pub Shortened : Step → Side → Side → Type 0
Shortened answer s s' = Shortens answer (length s.session.unread) (length s'.session.unread)

-- a step that did nothing left no frame unread
abbrev pub Ends : Step → Side → Type 0
Ends answer s = (r : Reader) → AtEnd r s.session answer

-- the step's result, with its frame answered
pub record Answers (answer : Step) (s s' : Side) : Type 0 where
  pub answered : IsAnswered s'
  pub shorter : Shortened answer s s'
  pub ends : Ends answer s'

-- all frames were processed
abbrev pub IsAllHeard : Side → Type 0
IsAllHeard s = (r : Reader) → IsHeardOut r s

-- the number of replies that wait for the first participant
abbrev pub waiting : List Side → ℕ
waiting [] = 0
waiting (s ∷ sides) = length s.queue

-- and the number of its unread bytes
abbrev pub unread : List Side → ℕ
unread [] = 0
unread (s ∷ sides) = length s.session.unread
