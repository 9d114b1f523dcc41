-- The same rows twice: A, in the market of the trail, and B, in that of another file, or without the rows of a
-- participant.
use Rattle.std.specs.Prelude.{◌≡◌, ◌⊎◌, ℕ, ◌-◌, ◌==◌, ◌&&◌, Bool, List, [], ◌∷◌, ◌++◌, length, Option, None, Some, codes, decimal}
use Rattle.std.specs.List.{flat_map}
use Rattle.std.specs.Io.KnownBytes.{Appends, Keeps}
use Rattle.participants.specs.Relations.{name_of}
use Rattle.venue_rules.specs.declared.trail.TrailRow.{TrailRow}
use Rattle.venue_rules.specs.Market.{Market}
use Rattle.venue_rules.specs.Readings.{trade_facts}
use Rattle.venue_rules.specs.Run.{Input, run}
use Rattle.row_replay.specs.Inputs.{AreOf}
use Rattle.trail_comparison.specs.declared.rules.Parts.{Parts}
use Rattle.trail_comparison.specs.declared.rules.Parts.TheVariants.{Both, Instruments, Participants}
use Rattle.trail_comparison.specs.declared.rules.Rules.{Rules}
use Rattle.trail_comparison.specs.Differences.{BeginsRows, answers_text, differences}
use Rattle.trail_comparison.specs.Trades.{are_same_trades, trades_text}
use Rattle.trail_comparison.specs.Without.{count_shared, shared_inputs}

abbrev pub market_of_rules : Rules → Market
market_of_rules r = record { participants = r.participants; instruments = r.instruments }

-- what A and B are
abbrev pub head : Parts → List ℕ
head Both = codes "A: the rows of the trail under its own files and delays\nB: the same rows under the participants, the instruments and the delays of the other file\nB has A's rows of the clock and no others: a held side of a cross enters at one of these after its delay, or never; trades may be lost or gained by that alone\n"
head Participants = codes "A: the rows of the trail under its own files and delays\nB: the same rows under the participants of the other file\nB has A's rows of the clock and no others: a held side of a cross enters at one of these after its delay, or never; trades may be lost or gained by that alone\n"
head Instruments = codes "A: the rows of the trail under its own files and delays\nB: the same rows under the instruments and the delays of the other file\nB has A's rows of the clock and no others: a held side of a cross enters at one of these after its delay, or never; trades may be lost or gained by that alone\n"

-- the same without as many rows, of the participant with this name
abbrev pub head_without : List ℕ → ℕ → List ℕ
head_without name count =
    flat_map (λ (p : List ℕ). p) (codes "A: the rows of the trail under its own files and delays\nB: the same rows without the " ∷ decimal count ∷ codes " of " ∷ name
    ∷ codes "\nrows left out are not compared, nor what anybody was sent at them; B numbers its own reports, orders, requests, quotes and trades: answers to later rows may differ in these numbers alone\nB has A's rows of the clock and no others: a held side of a cross enters at one of these after its delay, or never; trades may be lost or gained by that alone\n" ∷ [])

-- how many rows the second run leaves out
abbrev pub left_out : ℕ → List TrailRow → ℕ
left_out who rs = length rs - count_shared (Some who) rs

-- the trades of both runs
abbrev pub run_trades : (left : Option ℕ) → (m n : Market) → List Input → List ℕ
run_trades left m n is = trades_text m n (trade_facts (run m is).history.facts) (trade_facts (run n (shared_inputs left is)).history.facts)

abbrev pub have_same_trades : (left : Option ℕ) → (m n : Market) → List Input → Bool
have_same_trades left m n is = are_same_trades (trade_facts (run m is).history.facts) (trade_facts (run n (shared_inputs left is)).history.facts)

-- What was written compares the run of these rows' inputs in one market with that of those that the second run takes in
-- the other: each row that has other answers, their count, the trades of one run that the other has not; and no other
-- byte. Whether all these answers, and the trades, are the same is said.
pub record EmitsRuns (left : Option ℕ) (same : Bool) (m n : Market) (rs : List TrailRow) (before after : Option (List ℕ)) : Type 0 where
  pub items : List Input
  pub inputs : AreOf rs items
  pub said : same ≡ (length (differences left m n rs items) == 0 && have_same_trades left m n items)
  pub written : Appends before after (answers_text left m n rs items ++ run_trades left m n items)

-- behind these first lines
pub record EmitsBehind (first : List ℕ) (left : Option ℕ) (same : Bool) (m n : Market) (rs : List TrailRow) (before after : Option (List ℕ)) : Type 0 where
  pub mid : Option (List ℕ)
  pub head_written : Appends before mid first
  pub runs : EmitsRuns left same m n rs mid after

-- the same rows in two markets: A, that of the trail, and B, that of another file
abbrev pub EmitsUnder : Parts → (same : Bool) → (m n : Market) → List TrailRow → (before after : Option (List ℕ)) → Type 0
EmitsUnder parts same m n rs before after = EmitsBehind (head parts) None same m n rs before after

-- the same rows, and those that a participant did not send
abbrev pub EmitsWithout : (who : ℕ) → (same : Bool) → (m n : Market) → List TrailRow → (before after : Option (List ℕ)) → Type 0
EmitsWithout who same m n rs before after = EmitsBehind (head_without (name_of m.participants who) (left_out who rs)) (Some who) same m n rs before after

-- the first lines, and the answers of the first rows
pub record BeginsBehind (first : List ℕ) (left : Option ℕ) (m n : Market) (rs : List TrailRow) (before after : Option (List ℕ)) : Type 0 where
  pub mid : Option (List ℕ)
  pub written : Appends before mid first
  pub begins : BeginsRows left m n rs mid after

-- nothing, or these
abbrev pub IsBegunBehind : (first : List ℕ) → (left : Option ℕ) → (m n : Market) → List TrailRow → (before after : Option (List ℕ)) → Type 0
IsBegunBehind first left m n rs before after = Keeps before after ⊎ BeginsBehind first left m n rs before after

abbrev pub IsBegun : Parts → (m n : Market) → List TrailRow → (before after : Option (List ℕ)) → Type 0
IsBegun parts m n rs before after = IsBegunBehind (head parts) None m n rs before after

abbrev pub IsBegunWithout : (who : ℕ) → (m n : Market) → List TrailRow → (before after : Option (List ℕ)) → Type 0
IsBegunWithout who m n rs before after = IsBegunBehind (head_without (name_of m.participants who) (left_out who rs)) (Some who) m n rs before after
