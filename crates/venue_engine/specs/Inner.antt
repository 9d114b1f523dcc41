-- Answering an input: the contracts between the engine's parts.
use Rattle.std.specs.Prelude.{ℕ, ◌+◌, ◌≡◌, Bool, true, List, [], ◌∷◌, ◌++◌, Option, Some, None}
use Rattle.venue_rules.specs.declared.trail.EventFault.{EventFault}
use Rattle.venue_rules.specs.declared.trail.EventFault.TheVariants.{Behind, Due, Down, NoMemory, TrailRefused}
use Rattle.venue_rules.specs.declared.trail.TrailRow.{TrailRow}
use Rattle.venue_rules.specs.Answer.{Answer}
use Rattle.venue_rules.specs.Kept.{IsRisen}
use Rattle.venue_rules.specs.Run.{Input, row}
use Rattle.venue_core.specs.State.{State}
use Rattle.venue_core.specs.VenueFacts.{IsAnswer}
use Rattle.venue_core.specs.Taking.{Takes}
use Rattle.venue_engine.specs.Outbox.{Waiting, first_behind, posted}

-- the venue takes an input, nobody is behind, and the replies are queued
pub record IsPosted (i : Input) (v v' : State) (ws ws' : List Waiting) : Type 0 where
  pub answer : Answer
  pub takes : Takes v i answer v'
  pub none_behind : first_behind 0 answer.replies ws ≡ None
  pub queued : ws' ≡ posted answer.replies ws

-- nobody is behind with the input's replies, or this one is the first
pub record StandsBehind (i : Input) (v : State) (ws : List Waiting) (who : Option ℕ) : Type 0 where
  pub answer : Answer
  pub answers : IsAnswer v i answer
  pub first : first_behind 0 answer.replies ws ≡ who

-- the rows, with the input's, which has the next number
abbrev pub AreRows : Input → List TrailRow → List TrailRow → Bool → ℕ → ℕ → Type 0
AreRows i rows rows' clean' count count' = (clean' ≡ true → rows' ≡ rows ++ row (count + 1) i ∷ []) × (count' ≡ count + 1)

-- why a planned input was not recorded, by the count of refusals before and after
abbrev pub IsCommitFault : ℕ → ℕ → EventFault → Type 0
IsCommitFault refused refused' TrailRefused = IsRisen refused refused'
IsCommitFault refused refused' NoMemory = refused' ≡ refused
IsCommitFault refused refused' (Behind j) = ⊥
IsCommitFault refused refused' Due = ⊥
IsCommitFault refused refused' (Down j) = ⊥

-- why an input was not answered
abbrev pub IsHindered : Input → State → List Waiting → ℕ → ℕ → EventFault → Type 0
IsHindered i v ws refused refused' (Behind j) = StandsBehind i v ws (Some j) × (refused' ≡ refused)
IsHindered i v ws refused refused' TrailRefused = StandsBehind i v ws None × IsRisen refused refused'
IsHindered i v ws refused refused' NoMemory = refused' ≡ refused
IsHindered i v ws refused refused' Due = ⊥
IsHindered i v ws refused refused' (Down j) = ⊥
