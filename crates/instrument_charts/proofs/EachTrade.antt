-- Each trade of a day is charted.
use Rattle.std.proofs.Common.{◌≡◌, ℕ, zero, suc, ◌+◌, List, [], ◌∷◌, map, filter_map, slice_get, Option, Some, refl, ap, ◌∙◌, arith}
use Rattle.std.specs.List.{cons_option, enumerate_from}
use Rattle.venue_rules.specs.declared.facts.Trade.{Trade}
use Rattle.venue_rules.specs.declared.trail.TradeFact.{TradeFact}
use Rattle.venue_rules.specs.Facts.{trades}
use Rattle.venue_rules.specs.Readings.{trade_fact}
use Rattle.venue_rules.specs.Run.{run}
use Rattle.day_events.specs.declared.event.Event.{Event}
use Rattle.day_sections.specs.Found.{TradesAreFound}
use Rattle.day_sections.specs.Reports.{report_of, reports}
use Rattle.instrument_charts.specs.declared.deals.Deal.{Deal}
use Rattle.instrument_charts.specs.Deals.{deal_by, deal_of}
use Rattle.instrument_charts.specs.EachTrade.{TradesAreCharted}

abbrev numbers_of : List Deal → List ℕ
numbers_of ds = map (λ (d : Deal). d.number) ds

abbrev facts_of : List (ℕ × Trade) → List TradeFact
facts_of ps = map (λ (p : ℕ × Trade). trade_fact p.0 p.1) ps

-- where each trade from number n on has its report
numbered : (rs : List Event) (n : ℕ) (ts : List Trade) → ((k : ℕ) (t : Trade) → slice_get ts k ≡ Some t → (e : Event) × (report_of rs (n + k) ≡ Some e)) → numbers_of (filter_map (deal_by rs) (facts_of (enumerate_from n ts))) ≡ map (λ (t : TradeFact). t.number) (facts_of (enumerate_from n ts))
numbered rs n [] found = refl
numbered rs n (t ∷ ts) found =
    let e = found zero t refl in
    let here : report_of rs n ≡ Some e.0 = ap (report_of rs) (plus_none n) ∙ e.1 in
    let later : List Deal = filter_map (deal_by rs) (facts_of (enumerate_from (n + 1) ts)) in
    ap (λ (o : Option Event). numbers_of (cons_option (deal_of (trade_fact n t) o) later)) here
    ∙ ap (λ (l : List ℕ). n ∷ l) (numbered rs (n + 1) ts (λ k u at. let f = found (suc k) u at in (f.0, ap (report_of rs) (moved n k) ∙ f.1)))
  where
    plus_none : (j : ℕ) → j ≡ j + 0
    plus_none j = omega arith

    moved : (i j : ℕ) → (i + 1) + j ≡ i + suc j
    moved i j = omega arith

pub trades_are_charted : TradesAreFound → TradesAreCharted
trades_are_charted law m rows s es ps day =
    numbered (reports es) 1 (trades (run m day.items).history.facts)
    (λ k t at. let f = law m rows s es ps day k t at in (f.report, ap (report_of (reports es)) (turned k) ∙ f.found))
  where
    turned : (j : ℕ) → 1 + j ≡ j + 1
    turned j = omega arith
