use Rattle.std.proofs.Common.{◌≡◌, refl, sym, ap, ◌∙◌, ℕ, zero, suc, ◌+◌, Bool, true, false, cond, List, [], ◌∷◌, ◌++◌, length, map, arith, append-nil, append_assoc, length-append}
use Rattle.std.proofs.lemmas.List.{map-append}
use Rattle.std.specs.List.{enumerate_from, range_with_len}
use Rattle.std.proofs.lemmas.List.Elements.{filter_map-append}
use Rattle.fix_dictionary.specs.declared.values.Side.{Side}
use Rattle.venue_rules.specs.declared.facts.Fact.{Fact}
use Rattle.venue_rules.specs.declared.facts.Trade.{Trade}
use Rattle.venue_rules.specs.declared.replies.Reply.{Reply}
use Rattle.venue_rules.specs.Market.{Market}
use Rattle.venue_rules.specs.Facts.{History, no_history, next_trade, trades, trade_in}
use Rattle.venue_rules.specs.Rooms.{printed}
use Rattle.venue_rules.specs.Answer.{Answer}
use Rattle.venue_rules.specs.Messages.{message}
use Rattle.venue_rules.specs.Run.{is_report, Input, answer_input, after, run_from, run}
use Rattle.venue_rules.specs.Reported.{ReportsAreNumbered, TradesAreReported, execution_id, execution_ids, to_be_emitted, emitted_in, trades_emitted}
use Rattle.venue_rules.proofs.Reports.{Reports, reports_in, count_reports, emits}
use Rattle.venue_rules.proofs.ReportsEach.{input-Reports}

-- Over every list of inputs the reports have the next numbers, and the trades are reported.

-- the additions of a list of inputs to a history

abbrev pub added : Market → History → List Input → List Fact
added m h [] = []
added m h (i ∷ is) = (answer_input m h i).facts ++ added m (after h (answer_input m h i)) is

pub run_facts : (m : Market) (h : History) (is : List Input) → (run_from m h is).history.facts ≡ h.facts ++ added m h is
run_facts m h [] = sym (append-nil h.facts)
run_facts m h (i ∷ is) = run_facts m (after h (answer_input m h i)) is ∙ append_assoc h.facts (answer_input m h i).facts (added m (after h (answer_input m h i)) is)

-- consecutive numbers, and a continuation

range_more : (a n k : ℕ) → range_with_len a (n + k) ≡ range_with_len a n ++ range_with_len (a + n) k
range_more a zero k = ap (range_with_len a) (none k) ∙ ap (λ b. range_with_len b k) (sym (last a))
  where
    none : (i : ℕ) → 0 + i ≡ i
    none i = omega arith

    last : (i : ℕ) → i + 0 ≡ i
    last i = omega arith
range_more a (suc n) k = ap (range_with_len a) (next n k) ∙ ap (λ xs. a ∷ xs) (range_more (a + 1) n k ∙ ap (λ b. range_with_len (a + 1) n ++ range_with_len b k) (later a n))
  where
    next : (i j : ℕ) → suc i + j ≡ suc (i + j)
    next i j = omega arith

    later : (i j : ℕ) → i + 1 + j ≡ i + suc j
    later i j = omega arith

enumerate_more : (n : ℕ) (xs ys : List Trade) → enumerate_from n (xs ++ ys) ≡ enumerate_from n xs ++ enumerate_from (n + length xs) ys
enumerate_more n [] ys = ap (λ k. enumerate_from k ys) (last n)
  where
    last : (i : ℕ) → i ≡ i + 0
    last i = omega arith
enumerate_more n (x ∷ xs) ys = ap (λ zs. (n, x) ∷ zs) (enumerate_more (n + 1) xs ys ∙ ap (λ k. enumerate_from (n + 1) xs ++ enumerate_from k ys) (later n (length xs)))
  where
    later : (i j : ℕ) → i + 1 + j ≡ i + suc j
    later i j = omega arith

emits_more : (m : Market) (side : Side) (n : ℕ) (xs ys : List Trade) → emits m side n (xs ++ ys) ≡ emits m side n xs ++ emits m side (n + length xs) ys
emits_more m side n xs ys = ap (map (to_be_emitted m side)) (enumerate_more n xs ys) ∙ map-append (to_be_emitted m side) (enumerate_from n xs) (enumerate_from (n + length xs) ys)

reports_more : (xs ys : List Reply) → reports_in (xs ++ ys) ≡ reports_in xs + reports_in ys
reports_more [] ys = none (reports_in ys)
  where
    none : (n : ℕ) → n ≡ 0 + n
    none n = omega arith
reports_more (x ∷ xs) ys = one_more (is_report x.what) (reports_in (xs ++ ys)) (reports_in xs) (reports_in ys) (reports_more xs ys)
  where
    one_more : (b : Bool) (n i j : ℕ) → n ≡ i + j → cond b (suc n) n ≡ cond b (suc i) i + j
    one_more true n i j e = omega (arith, e)
    one_more false n i j e = e

-- a list of inputs from a history on

record RunReports (m : Market) (h : History) (is : List Input) : Type 0 where
  count : (run_from m h is).history.reports ≡ h.reports + reports_in (run_from m h is).replies
  ids : execution_ids (run_from m h is).replies ≡ map (printed 69) (range_with_len (h.reports + 1) (reports_in (run_from m h is).replies))
  emitted : (side : Side) → trades_emitted side (run_from m h is).replies ≡ emits m side (next_trade h.facts) (trades (added m h is))

run-RunReports : (m : Market) (h : History) (is : List Input) → RunReports m h is
run-RunReports m h [] = record { count = none h.reports; ids = refl; emitted = λ side. refl }
  where
    none : (n : ℕ) → n ≡ n + 0
    none n = omega arith
run-RunReports m h (i ∷ is) =
    let a : Answer = answer_input m h i in
    let rest : List Reply = (run_from m (after h a) is).replies in
    let k : Reports m h a = input-Reports m h i in
    let l : RunReports m (after h a) is = run-RunReports m (after h a) is in
    let counted : (after h a).reports ≡ h.reports + reports_in a.replies = ap (λ n. h.reports + n) (count_reports a.replies) in
    let both : reports_in (a.replies ++ rest) ≡ reports_in a.replies + reports_in rest = reports_more a.replies rest in
    record {
      count = l.count ∙ (ap (λ n. n + reports_in rest) counted ∙ (plus h.reports (reports_in a.replies) (reports_in rest) ∙ ap (λ n. h.reports + n) (sym both)));
      ids =
          filter_map-append (λ (r : Reply). execution_id (message r.what)) a.replies rest
          ∙ (ap (λ xs. xs ++ execution_ids rest) k.0
          ∙ (ap (λ xs. map (printed 69) (range_with_len (h.reports + 1) (reports_in a.replies)) ++ xs) (l.ids ∙ ap (λ n. map (printed 69) (range_with_len n (reports_in rest))) (ap (λ n. n + 1) counted ∙ past h.reports (reports_in a.replies)))
          ∙ (sym (map-append (printed 69) (range_with_len (h.reports + 1) (reports_in a.replies)) (range_with_len (h.reports + 1 + reports_in a.replies) (reports_in rest)))
          ∙ ap (map (printed 69)) (sym (range_more (h.reports + 1) (reports_in a.replies) (reports_in rest)) ∙ ap (range_with_len (h.reports + 1)) (sym both)))));
      emitted = λ side. filter_map-append (λ (r : Reply). emitted_in side r.to (message r.what)) a.replies rest
          ∙ (ap (λ xs. xs ++ trades_emitted side rest) (k.1 side)
          ∙ (ap (λ xs. emits m side (next_trade h.facts) (trades a.facts) ++ xs) (l.emitted side ∙ ap (λ n. emits m side n (trades (added m (after h a) is))) (next h.facts a.facts))
          ∙ (sym (emits_more m side (next_trade h.facts) (trades a.facts) (trades (added m (after h a) is))) ∙ ap (emits m side (next_trade h.facts)) (sym (filter_map-append trade_in a.facts (added m (after h a) is))))));
    }
  where
    plus : (x y z : ℕ) → x + y + z ≡ x + (y + z)
    plus x y z = omega arith

    past : (x y : ℕ) → x + y + 1 ≡ x + 1 + y
    past x y = omega arith

    next : (fs gs : List Fact) → next_trade (fs ++ gs) ≡ next_trade fs + length (trades gs)
    next fs gs = ap (λ ts. length ts + 1) (filter_map-append trade_in fs gs) ∙ (ap (λ n. n + 1) (length-append (trades fs) (trades gs)) ∙ past (length (trades fs)) (length (trades gs)))

-- the two laws

pub reports_numbered : (m : Market) (is : List Input) → ReportsAreNumbered (run m is)
reports_numbered m is = let k : RunReports m no_history is = run-RunReports m no_history is in k.ids ∙ ap (λ n. map (printed 69) (range_with_len 1 n)) (sym (k.count ∙ none (reports_in (run m is).replies)))
  where
    none : (n : ℕ) → 0 + n ≡ n
    none n = omega arith

pub trades_reported : (m : Market) (is : List Input) → TradesAreReported m (run m is)
trades_reported m is side = (run-RunReports m no_history is).emitted side ∙ ap (λ fs. emits m side 1 (trades fs)) (sym (run_facts m no_history is))
