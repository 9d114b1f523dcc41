use Rattle.std.specs.Prelude.{ℕ, ◌<◌, List, [], ◌∷◌, length, Contains}
use Rattle.venue_rules.specs.declared.replies.Reply.{Reply}
use Rattle.venue_rules.specs.Market.{Market}
use Rattle.venue_rules.specs.Run.{Input, Message, Tick, run}
use Rattle.venue_rules.specs.MoreInputs.{answer_after}

-- Addressees of replies, where messages come from participants.

-- a place in the participant file
abbrev pub IsParticipant : Market → ℕ → Type 0
IsParticipant m who = who < length m.participants.names

-- the sender is a participant; a tick has no sender
abbrev pub ComesFromParticipant : Market → Input → Type 0
ComesFromParticipant m (Message taken t) = IsParticipant m taken.from
ComesFromParticipant m (Tick t) = Unit {0}

abbrev pub ComeFromParticipants : Market → List Input → Type 0
ComeFromParticipants m [] = Unit {0}
ComeFromParticipants m (i ∷ is) = ComesFromParticipant m i × ComeFromParticipants m is

-- every reply goes to a participant
abbrev pub GoToParticipants : Market → List Reply → Type 0
GoToParticipants m rs = (r : Reply) → Contains rs r → IsParticipant m r.to

-- over a whole list of inputs
abbrev pub RepliesGoToParticipants : Type 0
RepliesGoToParticipants = (m : Market) (is : List Input) → ComeFromParticipants m is → GoToParticipants m (run m is).replies

-- and in the answer to a further input
abbrev pub AnswersGoToParticipants : Type 0
AnswersGoToParticipants = (m : Market) (is : List Input) (i : Input) → ComeFromParticipants m is → ComesFromParticipant m i → GoToParticipants m (answer_after m is i).replies
