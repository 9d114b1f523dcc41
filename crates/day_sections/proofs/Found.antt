-- Each trade of a day has a report at its place.
use Rattle.std.proofs.Common.{◌≡◌, ◌⊎◌, inl, inr, ℕ, zero, suc, ◌+◌, ◌-◌, ◌*◌, ◌<◌, ◌==◌, ◌||◌, nat_lt, Bool, true, false, cond, if◌then◌else◌, List, [], ◌∷◌, length, slice_get, Option, Some, None, is_some, refl, sym, ap, ◌∙◌, subst, arith, eq-eqb, ne_eqb, le-ltb}
use Rattle.std.specs.List.{cons_option}
use Rattle.std.proofs.lemmas.Bool.{or_from, true≢false}
use Rattle.venue_rules.specs.declared.facts.Trade.{Trade}
use Rattle.venue_rules.specs.Facts.{trades}
use Rattle.venue_rules.specs.Run.{run}
use Rattle.market_laws.specs.TradeReports.{AreInPairs, AreParties, TradeReport}
use Rattle.day_events.specs.declared.event.Event.{Event}
use Rattle.day_events.specs.declared.event.What.{What}
use Rattle.day_events.specs.declared.event.What.TheVariants as what
use Rattle.day_events.specs.TradeEvents.{EventsReportTrades, report_by, trades_reported}
use Rattle.day_sections.specs.Found.{TradesAreFound}
use Rattle.day_sections.specs.Reports.{if_reports, is_reporting, of_trade, report_of, reports}

-- what reports, and of which trade

reports_some : (to : ℕ) (w : What) → is_reporting w ≡ is_some (report_by to w)
reports_some to (what.Entered x) = refl
reports_some to (what.TooRecent x) = refl
reports_some to (what.Filled x) = refl
reports_some to (what.Cancelled x) = refl
reports_some to (what.Replaced x) = refl
reports_some to (what.Asked x) = refl
reports_some to (what.Quoted x) = refl
reports_some to (what.Withdrawn x) = refl
reports_some to what.Passed = refl
reports_some to (what.Traded x) = refl
reports_some to (what.Refused x) = refl

nothing : (a : TradeReport) → None ≡ Some a → ⊥
nothing a e = cc

same : (a b : TradeReport) → Some a ≡ Some b → a ≡ b
same a b e = cc

reports_it : (to : ℕ) (w : What) (a : TradeReport) (n : ℕ) → report_by to w ≡ Some a → a.trade ≡ n → if_reports n w ≡ true
reports_it to (what.Filled x) a n e is = eq-eqb x.trade n (ap (λ (r : TradeReport). r.trade) (same (record { to = to; trade = x.trade }) a e) ∙ is)
reports_it to (what.Traded x) a n e is = eq-eqb x.trade n (ap (λ (r : TradeReport). r.trade) (same (record { to = to; trade = x.trade }) a e) ∙ is)
reports_it to (what.Entered x) a n e is = absurd (nothing a e)
reports_it to (what.TooRecent x) a n e is = absurd (nothing a e)
reports_it to (what.Cancelled x) a n e is = absurd (nothing a e)
reports_it to (what.Replaced x) a n e is = absurd (nothing a e)
reports_it to (what.Asked x) a n e is = absurd (nothing a e)
reports_it to (what.Quoted x) a n e is = absurd (nothing a e)
reports_it to (what.Withdrawn x) a n e is = absurd (nothing a e)
reports_it to what.Passed a n e is = absurd (nothing a e)
reports_it to (what.Refused x) a n e is = absurd (nothing a e)

sent_to : (to : ℕ) (w : What) (a : TradeReport) → report_by to w ≡ Some a → to ≡ a.to
sent_to to (what.Filled x) a e = ap (λ (r : TradeReport). r.to) (same (record { to = to; trade = x.trade }) a e)
sent_to to (what.Traded x) a e = ap (λ (r : TradeReport). r.to) (same (record { to = to; trade = x.trade }) a e)
sent_to to (what.Entered x) a e = absurd (nothing a e)
sent_to to (what.TooRecent x) a e = absurd (nothing a e)
sent_to to (what.Cancelled x) a e = absurd (nothing a e)
sent_to to (what.Replaced x) a e = absurd (nothing a e)
sent_to to (what.Asked x) a e = absurd (nothing a e)
sent_to to (what.Quoted x) a e = absurd (nothing a e)
sent_to to (what.Withdrawn x) a e = absurd (nothing a e)
sent_to to what.Passed a e = absurd (nothing a e)
sent_to to (what.Refused x) a e = absurd (nothing a e)

-- the event at a place among the reports

record IsAt (rs : List Event) (k : ℕ) (a : TradeReport) : Type 0 where
  event : Event
  at : slice_get rs k ≡ Some event
  is : report_by event.to event.what ≡ Some a

one_more : (e : Event) (o : Option TradeReport) (b : Bool) (rs : List Event) (ds : List TradeReport) → report_by e.to e.what ≡ o → b ≡ is_some o → ((k : ℕ) (a : TradeReport) → slice_get ds k ≡ Some a → IsAt rs k a) → (k : ℕ) (a : TradeReport) → slice_get (cons_option o ds) k ≡ Some a → IsAt (cond b (e ∷ rs) rs) k a
one_more e None true rs ds is shows rest k a at = absurd (true≢false shows)
one_more e None false rs ds is shows rest k a at = rest k a at
one_more e (Some x) false rs ds is shows rest k a at = absurd (true≢false (sym shows))
one_more e (Some x) true rs ds is shows rest zero a at = record { event = e; at = refl; is = is ∙ at }
one_more e (Some x) true rs ds is shows rest (suc k) a at = let r = rest k a at in record { event = r.event; at = r.at; is = r.is }

event_at : (es : List Event) (k : ℕ) (a : TradeReport) → slice_get (trades_reported es) k ≡ Some a → IsAt (reports es) k a
event_at [] k a at = absurd (none k a at)
  where
    none : (k : ℕ) (a : TradeReport) → slice_get [] k ≡ Some a → ⊥
    none k a e = cc
event_at (e ∷ es) k a at = one_more e (report_by e.to e.what) (is_reporting e.what) (reports es) (trades_reported es) refl (reports_some e.to e.what) (event_at es) k a at

-- the first report of a trade is at twice its place

record IsFirst (n : ℕ) (t : Trade) (k : ℕ) (ds : List TradeReport) : Type 0 where
  report : TradeReport
  at : slice_get ds (k * 2) ≡ Some report
  number : report.trade ≡ n + k
  party : (report.to ≡ t.buyer) ⊎ (report.to ≡ t.seller)

first_party : (t : Trade) (a b : ℕ) → AreParties t a b → (a ≡ t.buyer) ⊎ (a ≡ t.seller)
first_party t a b (inl p) = inl p.0
first_party t a b (inr p) = inr p.0

trade_same : (x t : Trade) → Some x ≡ Some t → x ≡ t
trade_same x t e = cc

first_at : (n : ℕ) (ts : List Trade) (ds : List TradeReport) (k : ℕ) (t : Trade) → AreInPairs n ts ds → slice_get ts k ≡ Some t → IsFirst n t k ds
first_at n [] ds k t pairs at = absurd (none k t at)
  where
    none : (k : ℕ) (t : Trade) → slice_get [] k ≡ Some t → ⊥
    none k t e = cc
first_at n (x ∷ ts) [] k t pairs at = absurd pairs
first_at n (x ∷ ts) (a ∷ []) k t pairs at = absurd pairs
first_at n (x ∷ ts) (a ∷ b ∷ ds) zero t pairs at = record {
  report = a;
  at = refl;
  number = pairs.0.first ∙ plus_none n;
  party = subst (λ (y : Trade). (a.to ≡ y.buyer) ⊎ (a.to ≡ y.seller)) (trade_same x t at) (first_party x a.to b.to pairs.0.parties);
}
  where
    plus_none : (j : ℕ) → j ≡ j + 0
    plus_none j = omega arith
first_at n (x ∷ ts) (a ∷ b ∷ ds) (suc k) t pairs at =
    let r = first_at (n + 1) ts ds k t pairs.1 at in
    record {
      report = r.report;
      at = ap (slice_get (a ∷ b ∷ ds)) (twice k) ∙ r.at;
      number = r.number ∙ moved n k;
      party = r.party;
    }
  where
    twice : (j : ℕ) → suc j * 2 ≡ suc (suc (j * 2))
    twice j = omega arith

    moved : (i j : ℕ) → (i + 1) + j ≡ i + suc j
    moved i j = omega arith

-- so it is found

within : (xs : List Event) (y : Event) (k : ℕ) → slice_get xs k ≡ Some y → k < length xs
within [] y k e = absurd (none y k e)
  where
    none : (y : Event) (k : ℕ) → slice_get [] k ≡ Some y → ⊥
    none y k e = cc
within (x ∷ xs) y zero e = omega arith
within (x ∷ xs) y (suc k) e = let low : k < length xs = within xs y k e in omega (arith, low)

found_at : (rs : List Event) (k : ℕ) (e : Event) → slice_get rs (k * 2) ≡ Some e → if_reports (k + 1) e.what ≡ true → report_of rs (k + 1) ≡ Some e
found_at rs k e at its =
    let low : k * 2 < length rs = within rs e (k * 2) at in
    let there : (((k + 1) == 0) || nat_lt (length rs) (k + 1)) ≡ false = or_from ((k + 1) == 0) (nat_lt (length rs) (k + 1)) (ne_eqb (k + 1) 0 (not_zero k)) (le-ltb (length rs) (k + 1) (omega (arith, low))) in
    ap (λ b. if b then None else of_trade (k + 1) (slice_get rs (((k + 1) - 1) * 2))) there
    ∙ (ap (λ j. of_trade (k + 1) (slice_get rs (j * 2))) (less k)
    ∙ (ap (of_trade (k + 1)) at ∙ ap (λ b. if b then Some e else None) its))
  where
    not_zero : (j : ℕ) → j + 1 ≡ 0 → ⊥
    not_zero j z = absurd (omega (arith, z))

    less : (j : ℕ) → (j + 1) - 1 ≡ j
    less j = omega arith

pub trades_are_found : EventsReportTrades → TradesAreFound
trades_are_found law m rows s es ps day k t at =
    let first = first_at 1 (trades (run m day.items).history.facts) (trades_reported es) k t (law m rows s es ps day) at in
    let there = event_at es (k * 2) first.report first.at in
    let number : first.report.trade ≡ k + 1 = first.number ∙ turned k in
    record {
      report = there.event;
      found = found_at (reports es) k there.event there.at (reports_it there.event.to there.event.what first.report (k + 1) there.is number);
      party = subst (λ (to : ℕ). (to ≡ t.buyer) ⊎ (to ≡ t.seller)) (sym (sent_to there.event.to there.event.what first.report there.is)) first.party;
    }
  where
    turned : (j : ℕ) → 1 + j ≡ j + 1
    turned j = omega arith
