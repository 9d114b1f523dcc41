-- How each trade of a day was made, row by row.
use Rattle.std.specs.Prelude.{◌≡◌, ℕ, ◌-◌, ◌==◌, List, [], ◌∷◌, ◌++◌, Option, None, Some, slice_get, if◌then◌else◌}
use Rattle.venue_rules.specs.declared.trail.Taken.{Taken}
use Rattle.venue_rules.specs.declared.trail.TrailRow.{TrailRow}
use Rattle.venue_rules.specs.Answer.{Answer}
use Rattle.venue_rules.specs.Facts.{History, no_history}
use Rattle.venue_rules.specs.Market.{Market}
use Rattle.venue_rules.specs.Run.{Input, Message, Tick, after, answer_input}
use Rattle.venue_core.specs.Replay.{AreEmitted, Emits}
use Rattle.venue_core.specs.State.{State}
use Rattle.venue_core.specs.Taking.{Stands, Takes}
use Rattle.venue_core.specs.VenueFacts.{IsHistory}
use Rattle.trade_table.specs.declared.execution.Execution.{Execution}
use Rattle.trade_table.specs.declared.execution.Known.{Known}
use Rattle.trade_table.specs.Sources.{known_at, made_at}

-- the message of an input, or none of a tick
abbrev pub taken_in : Input → Option Taken
taken_in (Message taken t) = Some taken
taken_in (Tick t) = None

-- what is looked up later, by the rows from a history on
abbrev pub known_from : Market → History → List Known → List TrailRow → List Input → List Known
known_from m h ks [] is = ks
known_from m h ks (r ∷ rs) [] = ks
known_from m h ks (r ∷ rs) (i ∷ is) = known_from m (after h (answer_input m h i)) (ks ++ known_at (taken_in i) (answer_input m h i).replies) rs is

-- how each trade was made that the answers to the rows report, one row after another
abbrev pub executions_from : Market → History → List Known → List TrailRow → List Input → List Execution
executions_from m h ks [] is = []
executions_from m h ks (r ∷ rs) [] = []
executions_from m h ks (r ∷ rs) (i ∷ is) =
    made_at r (taken_in i) ks (answer_input m h i).replies ++ executions_from m (after h (answer_input m h i)) (ks ++ known_at (taken_in i) (answer_input m h i).replies) rs is

-- of a day
abbrev pub executions : Market → List TrailRow → List Input → List Execution
executions m rs is = executions_from m no_history [] rs is

-- that of the trade with a number: the one at its place, if it is of this trade
abbrev pub of_trade : ℕ → Option Execution → Option Execution
of_trade number None = None
of_trade number (Some x) = if x.trade == number then Some x else None

abbrev pub execution_of : List Execution → ℕ → Option Execution
execution_of xs number = if number == 0 then None else of_trade number (slice_get xs (number - 1))

-- a venue processes the input of a row, and how the trades there were made was added
pub record TakesExecutions (r : TrailRow) (s s' : State) (ks ks' : List Known) (xs xs' : List Execution) : Type 0 where
  pub input : Input
  pub answer : Answer
  pub emits : Emits r input
  pub takes : Takes s input answer s'
  pub made : (h : History) → IsHistory s h → xs' ≡ xs ++ made_at r (taken_in input) ks (answer_input s.market h input).replies
  pub learned : (h : History) → IsHistory s h → ks' ≡ ks ++ known_at (taken_in input) (answer_input s.market h input).replies

-- a venue stands where the inputs of these rows lead, and this is how the trades so far were made
pub record AreExecutions (m : Market) (rs : List TrailRow) (s : State) (ks : List Known) (xs : List Execution) : Type 0 where
  pub items : List Input
  pub emitted : AreEmitted rs items
  pub stands : Stands m items s
  pub learned : ks ≡ known_from m no_history [] rs items
  pub made : xs ≡ executions m rs items
