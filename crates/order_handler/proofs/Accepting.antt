use Rattle.std.proofs.Common.{◌≡◌, refl, sym, ap, ◌∙◌, subst, ℕ, ◌+◌, ◌-◌, List, [], ◌∷◌, ◌++◌, All, Some, length, map, take, append_assoc, flat_map, arith, zero-add, suc}
use Rattle.std.specs.List.{enumerate_from, sum_by}
use Rattle.std.proofs.lemmas.List.{take_at, length-map, length_push}
use Rattle.std.proofs.lemmas.List.Elements.{All-head, All-tail}
use Rattle.std.proofs.lemmas.List.Sums.{sum_by-append}
use Rattle.venue_rules.specs.declared.facts.Fact.{Fact}
use Rattle.venue_rules.specs.declared.facts.Fact.TheVariants.{Traded}
use Rattle.venue_rules.specs.declared.facts.Entry.{Entry}
use Rattle.venue_rules.specs.declared.facts.OrderFact.{OrderFact}
use Rattle.venue_rules.specs.declared.replies.Reply.{Reply}
use Rattle.venue_rules.specs.declared.replies.ReplyBody.TheVariants.{OrderEntered}
use Rattle.instruments.specs.Listing.{symbol_of}
use Rattle.venue_rules.specs.Market.{Market}
use Rattle.venue_rules.specs.Facts.{History, next_order, next_trade, trades}
use Rattle.venue_rules.specs.Answer.{Answer, numbered, reply}
use Rattle.venue_rules.specs.Book.{Fill, fills, filled, filled_by}
use Rattle.venue_rules.specs.Entering.{entering, entry_facts, fill_report, fill_reports, trade_of}
use Rattle.venue_rules.specs.Orders.{accepted}
use Rattle.price_book.specs.declared.plan.FilledOrder.{FilledOrder}
use Rattle.price_book.specs.Plan.{Plan}
use Rattle.price_book.specs.Plans.{entry_plan, printed}
use Rattle.venue_request.specs.declared.counts.Counts.{Counts}
use Rattle.order_handler.specs.Entered.{accepted_with, reports_from}
use Rattle.order_handler.specs.Parts.{Parts, book_answer_of}
use Rattle.order_handler.specs.Reads.{IsReadAlone}
use Rattle.order_handler.specs.Reports.{entry_report, filled_reply, reports_of, rest_reports, resting_report, total, walked}

-- The reports one after another are those of the rules.

sum-cons : {X : Type 0} (q : X → ℕ) (x : X) (xs : List X) → sum_by q (x ∷ xs) ≡ q x + sum_by q xs
sum-cons q x xs = sum_by-append q (x ∷ []) xs ∙ ap (λ n. n + sum_by q xs) (zero-add (q x))

pub total-printed : (fs : List Fill) → total (map printed fs) ≡ filled_by fs
total-printed [] = refl
total-printed (f ∷ fs) = sum-cons (λ (g : FilledOrder). g.quantity) (printed f) (map printed fs) ∙ ap (λ n. f.quantity + n) (total-printed fs) ∙ sym (sum-cons (λ (g : Fill). g.quantity) f fs)

filled_by-push : (fs : List Fill) (f : Fill) → filled_by (fs ++ f ∷ []) ≡ filled_by fs + f.quantity
filled_by-push fs f = sum_by-append (λ (g : Fill). g.quantity) fs (f ∷ []) ∙ ap (λ n. filled_by fs + n) (zero-add f.quantity)

-- the fills up to and including one
taken_to : (pre : List Fill) (f : Fill) (fs : List Fill) → filled_by (take (length pre + 1) (pre ++ f ∷ fs)) ≡ filled_by pre + f.quantity
taken_to pre f fs =
    ap (λ gs. filled_by (take (length pre + 1) gs)) (sym (append_assoc pre (f ∷ []) fs))
    ∙ ap filled_by (take_at (pre ++ f ∷ []) fs (length pre + 1) (length_push pre f))
    ∙ filled_by-push pre f

-- the two reports of a fill
fill_two : (m : Market) (symbol : List ℕ) (e : Entry) (f : Fill) (so_far so_far' trade : ℕ) (more more' : List (ℕ → Reply))
    → symbol ≡ symbol_of m.instruments e.order.instrument → f.resting.entry.order.instrument ≡ e.order.instrument → so_far ≡ so_far' → more ≡ more'
    → (λ n. filled_reply e.order.who (entry_report symbol e (e.order.quantity - so_far) (e.filled_before + so_far) n) (printed f) trade) ∷ (λ n. filled_reply f.resting.entry.order.who (resting_report symbol (printed f) n) (printed f) trade) ∷ more
    ≡ fill_report m e (e.order.quantity - so_far') (e.filled_before + so_far') f trade ∷ fill_report m f.resting.entry (f.resting.left - f.quantity) (filled f.resting + f.quantity) f trade ∷ more'
fill_two m symbol e f so_far so_far' trade more more' named here same rest =
    let own : symbol ≡ symbol_of m.instruments f.resting.entry.order.instrument = named ∙ ap (symbol_of m.instruments) (sym here) in
    ap (λ (s : List ℕ). let fs : List (ℕ → Reply) = (λ n. filled_reply e.order.who (entry_report s e (e.order.quantity - so_far) (e.filled_before + so_far) n) (printed f) trade) ∷ (λ n. filled_reply f.resting.entry.order.who (resting_report symbol (printed f) n) (printed f) trade) ∷ more in fs) named
    ∙ ap (λ (s : List ℕ). let fs : List (ℕ → Reply) = fill_report m e (e.order.quantity - so_far) (e.filled_before + so_far) f trade ∷ (λ n. filled_reply f.resting.entry.order.who (resting_report s (printed f) n) (printed f) trade) ∷ more in fs) own
    ∙ ap (λ (k : ℕ). let fs : List (ℕ → Reply) = fill_report m e (e.order.quantity - k) (e.filled_before + k) f trade ∷ fill_report m f.resting.entry (f.resting.left - f.quantity) (filled f.resting + f.quantity) f trade ∷ more in fs) same
    ∙ ap (λ (rs : List (ℕ → Reply)). let fs : List (ℕ → Reply) = fill_report m e (e.order.quantity - so_far') (e.filled_before + so_far') f trade ∷ fill_report m f.resting.entry (f.resting.left - f.quantity) (filled f.resting + f.quantity) f trade ∷ rs in fs) rest

one_on : (n k : ℕ) → n + k + 1 ≡ n + (k + 1)
one_on n k = omega arith

walked-reports : (m : Market) (symbol : List ℕ) (e : Entry) (trade : ℕ) (pre fs : List Fill)
    → symbol ≡ symbol_of m.instruments e.order.instrument → All (λ (g : FilledOrder). g.instrument ≡ e.order.instrument) (map printed fs)
    → walked symbol e (filled_by pre) (trade + length pre) (map printed fs) ≡ flat_map (fill_reports m e (pre ++ fs) trade) (enumerate_from (length pre) fs)
walked-reports m symbol e trade pre [] named here = refl
walked-reports m symbol e trade pre (f ∷ fs) named here =
    let ih = walked-reports m symbol e trade (pre ++ f ∷ []) fs named (All-tail (λ (g : FilledOrder). g.instrument ≡ e.order.instrument) (printed f) (map printed fs) here) in
    let all : walked symbol e (filled_by (pre ++ f ∷ [])) (trade + length (pre ++ f ∷ [])) (map printed fs) ≡ flat_map (fill_reports m e (pre ++ f ∷ fs) trade) (enumerate_from (length (pre ++ f ∷ [])) fs) = ih ∙ ap (λ gs. flat_map (fill_reports m e gs trade) (enumerate_from (length (pre ++ f ∷ [])) fs)) (append_assoc pre (f ∷ []) fs) in
    let rest : walked symbol e (filled_by pre + f.quantity) (trade + length pre + 1) (map printed fs) ≡ flat_map (fill_reports m e (pre ++ f ∷ fs) trade) (enumerate_from (length pre + 1) fs) =
    ap (λ k. walked symbol e k (trade + length pre + 1) (map printed fs)) (sym (filled_by-push pre f))
    ∙ ap (λ k. walked symbol e (filled_by (pre ++ f ∷ [])) k (map printed fs)) (one_on trade (length pre) ∙ ap (λ k. trade + k) (sym (length_push pre f)))
    ∙ all
    ∙ ap (λ k. flat_map (fill_reports m e (pre ++ f ∷ fs) trade) (enumerate_from k fs)) (length_push pre f) in
    fill_two m symbol e f (filled_by pre + f.quantity) (filled_by (take (length pre + 1) (pre ++ f ∷ fs))) (trade + length pre) (walked symbol e (filled_by pre + f.quantity) (trade + length pre + 1) (map printed fs)) (flat_map (fill_reports m e (pre ++ f ∷ fs) trade) (enumerate_from (length pre + 1) fs)) named (All-head (λ (g : FilledOrder). g.instrument ≡ e.order.instrument) (printed f) (map printed fs) here) (sym (taken_to pre f fs)) rest

nothing_on : (n : ℕ) → n ≡ n + 0
nothing_on n = omega arith

pub entry_reports-walked : (m : Market) (symbol : List ℕ) (e : Entry) (fs : List Fill) (trade : ℕ)
    → symbol ≡ symbol_of m.instruments e.order.instrument → All (λ (g : FilledOrder). g.instrument ≡ e.order.instrument) (map printed fs)
    → walked symbol e 0 trade (map printed fs) ++ rest_reports symbol e (total (map printed fs)) ≡ reports_from m e fs trade
entry_reports-walked m symbol e fs trade named here =
    let fills-are : walked symbol e 0 trade (map printed fs) ≡ flat_map (fill_reports m e fs trade) (enumerate_from 0 fs) = ap (λ k. walked symbol e 0 k (map printed fs)) (nothing_on trade) ∙ walked-reports m symbol e trade [] fs named here in
    ap (λ rs. rs ++ rest_reports symbol e (total (map printed fs))) fills-are
    ∙ ap (λ k. flat_map (fill_reports m e fs trade) (enumerate_from 0 fs) ++ rest_reports symbol e k) (total-printed fs)
    ∙ ap (λ s. flat_map (fill_reports m e fs trade) (enumerate_from 0 fs) ++ rest_reports s e (filled_by fs)) named

-- the whole answer
accepted-plan : (m : Market) (e : Entry) (fs : List Fill) (trade reports : ℕ) (symbol : List ℕ)
    → symbol ≡ symbol_of m.instruments e.order.instrument → All (λ (g : FilledOrder). g.instrument ≡ e.order.instrument) (map printed fs)
    → numbered reports (reports_of symbol e trade (map printed fs)) ≡ (accepted_with m e fs trade reports).replies
unfolding accepted_with
accepted-plan m e fs trade reports symbol named here =
    ap (λ (rs : List (ℕ → Reply)). numbered reports ((λ n. reply e.order.who (OrderEntered (entry_report symbol e e.order.quantity 0 n))) ∷ rs)) (entry_reports-walked m symbol e fs trade named here)
    ∙ ap (λ (s : List ℕ). numbered reports ((λ n. reply e.order.who (OrderEntered (entry_report s e e.order.quantity 0 n))) ∷ reports_from m e fs trade)) named

-- the facts of an accepted order are those of its entry
accepted-facts : (m : Market) (e : Entry) (fs : List Fill) (trade reports : ℕ) → entry_facts e fs ≡ (accepted_with m e fs trade reports).facts
unfolding accepted_with
accepted-facts m e fs trade reports = refl

pub accepted-is : (m : Market) (facts : List Fact) (o : OrderFact) (t trade reports : ℕ) (plan : Plan) (symbol : List ℕ) (e : Entry) (replies : List Reply) (a : Parts)
    → plan ≡ entry_plan facts o t → symbol ≡ symbol_of m.instruments o.instrument → Some e ≡ Some (entering facts o 0 t)
    → All (λ (g : FilledOrder). g.instrument ≡ o.instrument) plan.fills
    → replies ≡ numbered reports (reports_of symbol e trade plan.fills) → book_answer_of a ≡ record { facts = plan.facts; replies = replies }
    → book_answer_of a ≡ accepted_with m (entering facts o 0 t) (fills facts o) trade reports
accepted-is m facts o t trade reports plan symbol e replies a planned named entered here made is =
    let same : e ≡ entering facts o 0 t = cc in
    let printed-here : All (λ (g : FilledOrder). g.instrument ≡ o.instrument) (map printed (fills facts o)) = subst (λ (p : Plan). All (λ (g : FilledOrder). g.instrument ≡ o.instrument) p.fills) planned here in
    let answer : Answer = accepted_with m (entering facts o 0 t) (fills facts o) trade reports in
    let all : replies ≡ answer.replies =
    made
    ∙ ap (λ (p : Plan). numbered reports (reports_of symbol e trade p.fills)) planned
    ∙ ap (λ (x : Entry). numbered reports (reports_of symbol x trade (map printed (fills facts o)))) same
    ∙ accepted-plan m (entering facts o 0 t) (fills facts o) trade reports symbol named printed-here in
    is
    ∙ ap (λ (p : Plan). let x : Answer = record { facts = p.facts; replies = replies } in x) planned
    ∙ ap (λ (fs : List Fact). let x : Answer = record { facts = fs; replies = replies } in x) (accepted-facts m (entering facts o 0 t) (fills facts o) trade reports)
    ∙ ap (λ (rs : List Reply). let x : Answer = record { facts = answer.facts; replies = rs } in x) all

-- the same for every history with these readings

accepted-with : (m : Market) (h : History) (o : OrderFact) (t : ℕ) → accepted m h o t ≡ accepted_with m (record { number = next_order h.facts; order = o; filled_before = 0; moment = t }) (fills h.facts o) (next_trade h.facts) h.reports
unfolding accepted_with
accepted-with m h o t = refl

pub accepted-read : (m : Market) (h : History) (book delay : List Fact) (c : Counts) (o : OrderFact) (t : ℕ) → IsReadAlone h book delay c → accepted m h o t ≡ accepted_with m (entering book o 0 t) (fills book o) (c.trades + 1) c.reports
accepted-read m h book delay c o t x =
    let entry : ℕ → Entry = λ n. record { number = n; order = o; filled_before = 0; moment = t } in
    accepted-with m h o t
    ∙ ap (λ n. accepted_with m (entry n) (fills h.facts o) (next_trade h.facts) h.reports) x.order_number
    ∙ ap (λ fs. accepted_with m (entering book o 0 t) fs (next_trade h.facts) h.reports) (x.filled o)
    ∙ ap (λ n. accepted_with m (entering book o 0 t) (fills book o) n h.reports) x.trade_number
    ∙ ap (λ n. accepted_with m (entering book o 0 t) (fills book o) (c.trades + 1) n) x.reports

-- an entry has a trade for each fill

trades-made : (e : Entry) (fs : List Fill) → length (trades (map (λ f. Traded (trade_of e f)) fs)) ≡ length fs
trades-made e [] = refl
trades-made e (f ∷ fs) = ap suc (trades-made e fs)

pub trades-entered : (e : Entry) (fs : List Fill) → length (trades (entry_facts e fs)) ≡ length (map printed fs)
trades-entered e fs = trades-made e fs ∙ sym (length-map fs printed)
