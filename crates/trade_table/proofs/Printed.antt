-- The table, written.
use Rattle.std.proofs.Common.{◌≡◌, inl, inr, ℕ, List, Option, Some, None, Result, Ok, Err, refl, subst, ◌∙◌}
use Rattle.std.specs.Result.{IfErr}
use Rattle.std.specs.Io.KnownBytes.{Appends, Keeps}
use Rattle.trade_blotter.specs.declared.printing.PrintFault.{PrintFault}
use Rattle.trade_blotter.specs.declared.printing.PrintFault.TheVariants.{Memory}
use Rattle.venue_rules.specs.declared.trail.TrailRow.{TrailRow}
use Rattle.venue_rules.specs.Market.{Market}
use Rattle.venue_rules.specs.Run.{Input, rows, run}
use Rattle.venue_core.specs.Replay.{AreEmitted, AreFitting}
use Rattle.venue_core.specs.State.{State}
use Rattle.trade_table.specs.declared.execution.Execution.{Execution}
use Rattle.trade_table.specs.declared.execution.Known.{Known}
use Rattle.row_replay.specs.Inputs.{AreOf}
use Rattle.trade_table.specs.Executions.{AreExecutions}
use Rattle.trade_table.specs.Table.{AppendsRows, BeginsOf, BeginsTable, EmitsTable, table_of}

-- rows of inputs record these inputs
abbrev pub EmitTheirInputs : Type 0
EmitTheirInputs = (rs : List TrailRow) (is emitted : List Input) → rs ≡ rows is → AreFitting is → AreEmitted rs emitted → emitted ≡ is

are_of : EmitTheirInputs → (rs : List TrailRow) (items : List Input) → AreEmitted rs items → AreOf rs items
are_of law rs items emitted = record { emitted = emitted; of_run = λ is same fits. law rs is items same fits emitted }

pub table_written : EmitTheirInputs → (m : Market) (rs : List TrailRow) (s : State) (ks : List Known) (xs ys : List Execution) (before after : Option (List ℕ)) (made : AreExecutions m rs s ks xs) → ys ≡ xs
    → Appends before after (table_of s.market (run m made.items).history ys) → EmitsTable m rs before after
table_written law m rs s ks xs ys before after made same written = record {
  items = made.items;
  emitted = are_of law rs made.items made.emitted;
  written = subst (Appends before after) (λ j. table_of (made.stands.market j) (run m made.items).history ((same ∙ made.made) j)) written;
}

pub table_begun : EmitTheirInputs → (m : Market) (rs : List TrailRow) (s : State) (ks : List Known) (xs ys : List Execution) (before after : Option (List ℕ)) (made : AreExecutions m rs s ks xs) → ys ≡ xs
    → BeginsOf s.market (run m made.items).history ys before after → BeginsTable m rs before after
table_begun law m rs s ks xs ys before after made same (inl kept) = inl kept
table_begun law m rs s ks xs ys before after made same (inr begun) = inr (record {
  items = made.items;
  emitted = are_of law rs made.items made.emitted;
  written = subst (λ (p : Market × List Execution). AppendsRows p.0 (run m made.items).history p.1 before after) (λ j. (made.stands.market j, (same ∙ made.made) j)) begun;
})

pub keeps_own : (held : Option (List ℕ)) → Keeps held held
keeps_own None = tt
keeps_own (Some bytes) = refl

pub memory_gives : {A : Type 0} (r : Result A PrintFault) (P : Type 0) → P → IfErr r (λ fault. fault ≡ Memory → P)
memory_gives (Ok x) P p = tt
memory_gives (Err fault) P p = λ _. p

pub memory_weaker : {A : Type 0} (r : Result A PrintFault) (P Q : Type 0) → (P → Q) → IfErr r (λ fault. fault ≡ Memory → P) → IfErr r (λ fault. fault ≡ Memory → Q)
memory_weaker (Ok x) P Q f h = tt
memory_weaker (Err fault) P Q f h = λ e. f (h e)
