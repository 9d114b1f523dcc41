use Rattle.std.specs.Prelude.{◌≡◌, List, [], ◌∷◌, ◌++◌}
use Rattle.venue_rules.specs.declared.replies.Reply.{Reply}
use Rattle.venue_rules.specs.Answer.{Answer}
use Rattle.venue_rules.specs.Market.{Market}
use Rattle.venue_rules.specs.Run.{Input, run}
use Rattle.venue_core.specs.State.{State, standing}
use Rattle.venue_core.specs.VenueFacts.{IsAfter, IsAnswer, IsHistory}

-- a venue of this market in the state of these inputs
pub record Stands (m : Market) (is : List Input) (s : State) : Type 0 where
  pub market : s.market ≡ m
  pub history : IsHistory s (run m is).history

-- a venue takes an input, with this answer
pub record Takes (s : State) (i : Input) (a : Answer) (s' : State) : Type 0 where
  pub market : s'.market ≡ s.market
  pub answers : IsAnswer s i a
  pub goes : IsAfter s a s'

-- a venue in the same state as another
pub record IsSame (s s' : State) : Type 0 where
  pub market : s'.market ≡ s.market
  pub day : standing s'.day ≡ standing s.day

-- a venue takes an input with these replies, and then others
pub record TakesFirst (s : State) (i : Input) (replies : List Reply) (then : State → List Reply → Type 0) : Type 0 where
  pub first : Answer
  pub between : State
  pub more : List Reply
  pub takes : Takes s i first between
  pub rest : then between more
  pub all : replies ≡ first.replies ++ more

-- a venue takes inputs one after another, with these replies in all
abbrev pub TakesAll : State → List Input → List Reply → State → Type 0
TakesAll s [] replies s' = IsSame s s' × (replies ≡ [])
TakesAll s (i ∷ is) replies s' = TakesFirst s i replies (λ b more. TakesAll b is more s')
