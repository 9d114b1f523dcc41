-- The runs of the same rows in two markets.
use Rattle.std.proofs.Common.{◌≡◌, inr, ℕ, ◌==◌, ◌&&◌, Bool, List, ◌++◌, length, Option, sym, ap, ◌∙◌, subst, append_assoc}
use Rattle.std.proofs.KnownBytes.{Appends-trans}
use Rattle.std.specs.Io.KnownBytes.{Appends}
use Rattle.venue_rules.specs.declared.trail.TrailRow.{TrailRow}
use Rattle.venue_rules.specs.Facts.{History}
use Rattle.venue_rules.specs.Market.{Market}
use Rattle.venue_rules.specs.Readings.{trade_facts}
use Rattle.venue_rules.specs.Run.{run}
use Rattle.venue_core.specs.State.{State}
use Rattle.venue_core.specs.VenueFacts.{IsHistory}
use Rattle.row_replay.specs.Laws.{AreTheirs}
use Rattle.trail_comparison.specs.Differences.{AreReplayed, BeginsRows, count_line, differences, differences_text}
use Rattle.trail_comparison.specs.Trades.{are_same_trades, trades_text}
use Rattle.trail_comparison.specs.Under.{EmitsBehind, EmitsRuns, IsBegunBehind, run_trades}
use Rattle.trail_comparison.specs.Without.{count_shared, shared_inputs}

-- what the last lines are, whatever the histories of the venues
abbrev pub AreLast : State → State → ℕ → ℕ → List ℕ → Type 0
AreLast s t count rows text = (h k : History) → IsHistory s h → IsHistory t k → text ≡ count_line count rows ++ trades_text s.market t.market (trade_facts h.facts) (trade_facts k.facts)

abbrev pub AreTrades : State → State → Bool → Type 0
AreTrades s t same = (h k : History) → IsHistory s h → IsHistory t k → same ≡ are_same_trades (trade_facts h.facts) (trade_facts k.facts)

pub are_compared : AreTheirs → (left : Option ℕ) (m n : Market) (rs : List TrailRow) (count : ℕ) (s t : State) (text : List ℕ) (same : Bool) (before mid after : Option (List ℕ))
    → AreReplayed left m n rs count s t before mid → AreLast s t count (count_shared left rs) text → AreTrades s t same → Appends mid after text
    → EmitsRuns left (count == 0 && same) m n rs before after
are_compared law left m n rs count s t text same before mid after done last trades written =
    let is = done.items in
    let h = (run m is).history in
    let k = (run n (shared_inputs left is)).history in
    let rows = differences_text m n (differences left m n rs is) in
    let ended : text ≡ count_line (length (differences left m n rs is)) (count_shared left rs) ++ run_trades left m n is =
    last h k done.stands.history done.stands_too.history
    ∙ (λ x. count_line (done.counted x) (count_shared left rs) ++ trades_text (done.stands.market x) (done.stands_too.market x) (trade_facts h.facts) (trade_facts k.facts)) in
    record {
      items = is;
      inputs = law rs is done.emitted;
      said = (λ x. (done.counted x == 0) && trades h k done.stands.history done.stands_too.history x);
      written = subst (Appends before after) (sym (append_assoc rows (count_line (length (differences left m n rs is)) (count_shared left rs)) (run_trades left m n is)))
          (Appends-trans before mid after _ _ done.written (subst (Appends mid after) ended written));
    }

pub behind_head : (first : List ℕ) (left : Option ℕ) (same : Bool) (m n : Market) (rs : List TrailRow) (before mid after : Option (List ℕ)) → Appends before mid first → EmitsRuns left same m n rs mid after
    → EmitsBehind first left same m n rs before after
behind_head first left same m n rs before mid after written runs = record { mid = mid; head_written = written; runs = runs }

pub begun_behind : (first : List ℕ) (left : Option ℕ) (m n : Market) (rs : List TrailRow) (before mid after : Option (List ℕ)) → Appends before mid first → BeginsRows left m n rs mid after
    → IsBegunBehind first left m n rs before after
begun_behind first left m n rs before mid after written begins = inr (record { mid = mid; written = written; begins = begins })
