-- A whole run over one stream: its input and its output.
use Rattle.std.specs.Prelude.{◌≡◌, ◌≤◌, ◌-◌, ℕ, suc, zero, List, [], ◌∷◌, ◌++◌, Option, length, map}
use Rattle.std.specs.Io.KnownBytes.{Appends, Consumes}
use Rattle.fix_dictionary.specs.declared.messages.Item.{Item}
use Rattle.fix_session.specs.Chain.{accepted}
use Rattle.fix_session.specs.Reader.{Reader}
use Rattle.fix_session.specs.Sent.{numbered}
use Rattle.venue_rules.specs.Market.{Market}
use Rattle.venue_rules.specs.Run.{Input, owed}
use Rattle.venue_world.specs.declared.world_event.WorldEvent.{WorldEvent}
use Rattle.venue_world.specs.declared.world_event.WorldEvent.TheVariants.{Alone}
use Rattle.venue_world.specs.declared.world_event.SessionEvent.TheVariants.{Cuts, Resumes}
use Rattle.venue_world.specs.Headline.{given_from, heard_of, items_of}
use Rattle.venue_world.specs.Side.{Side}
use Rattle.venue_world.specs.Wires as wires
use Rattle.venue_world.specs.Wires.{in_acts}
use Rattle.venue_world.specs.World.{WorldState, after_all, fresh_world, message_from}
use Rattle.once_session.specs.Acts.{IsAnswered, IsHeardOut, Leads, OfFirst, pieces}
use Rattle.once_session.specs.Reading.{longest_piece}

-- this many participants after the first are cut, one after another
abbrev pub cuts_behind : ℕ → List WorldEvent
cuts_behind zero = []
cuts_behind (suc k) = cuts_behind k ++ Alone (suc k) Cuts ∷ []

-- of n participants all but the first are cut, and the line of the first comes up at t
abbrev pub opening : ℕ → ℕ → List WorldEvent
opening n t = cuts_behind (n - 1) ++ Alone 0 (Resumes t) ∷ []

-- a run of this market: its line comes up at t, and these acts follow
abbrev pub run_of : Market → ℕ → List WorldEvent → List WorldEvent
run_of m t acts = opening (length m.participants.names) t ++ acts

-- the state before anything is read,
abbrev pub opened : Reader → Market → ℕ → WorldState
opened r m t = after_all r (fresh_world m) (opening (length m.participants.names) t)

-- and at its end
abbrev pub ended : Reader → Market → ℕ → List WorldEvent → List Side
ended r m t acts = (after_all r (opened r m t) acts).sides

-- these messages are taken from the first participant, each at t
abbrev pub taken : ℕ → List Item → List Input
taken t items = map (λ item. message_from 0 item t) items

-- the application messages that it numbered for the participant are these that it is owed
abbrev pub Owes : Market → List Input → Side → Type 0
Owes m items s = numbered s.session ≡ owed m 0 items

-- The output for a whole stream: possible acts read it, until all is heard, answered and written. The items taken are
-- what the first participant's session accepted of all that it heard, each at t. The application messages that it
-- numbered for the participant are those that the rules' run of the items owes it. The output is what the acts gave; it
-- is also, in order and to the last byte, all that its session queued for its line from its beginning on: nothing was
-- dropped.
pub record AnswersStream (r : Reader) (m : Market) (t : ℕ) (input output : List ℕ) : Type 0 where
  pub acts : List WorldEvent
  pub leads : Leads r t (opened r m t) acts
  pub reads : pieces acts ≡ input
  pub heard : OfFirst (IsHeardOut r) (ended r m t acts)
  pub answered : OfFirst IsAnswered (ended r m t acts)
  pub takes : items_of r m (run_of m t acts) ≡ taken t (accepted (heard_of r m 0 (run_of m t acts)))
  pub owes : OfFirst (Owes m (items_of r m (run_of m t acts))) (ended r m t acts)
  pub gives : given_from r 0 (opened r m t) acts ≡ output
  pub queued : in_acts wires.queued r m 0 (run_of m t acts) ≡ output

-- A stopped run: possible acts read some bytes, and the piece after them, if any, did not arrive; what they gave was
-- written, and nothing else.
pub record Stopped (r : Reader) (m : Market) (t : ℕ) (left left' held held' : Option (List ℕ)) : Type 0 where
  pub acts : List WorldEvent
  pub lost : List ℕ
  pub leads : Leads r t (opened r m t) acts
  pub consumed : Consumes left left' (pieces acts ++ lost)
  pub short : length lost ≤ longest_piece
  pub written : Appends held held' (given_from r 0 (opened r m t) acts)
