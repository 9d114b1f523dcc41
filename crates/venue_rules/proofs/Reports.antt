use Rattle.std.proofs.Common.{◌≡◌, refl, sym, ap, ◌∙◌, inl, inr, ℕ, suc, ◌+◌, ◌-◌, Bool, true, false, cond, if◌then◌else◌, List, [], ◌∷◌, ◌++◌, map, filter, filter_map, flat_map, take, Option, Some, None, arith, append-nil, ◌&&◌, nat_lt, not}
use Rattle.std.specs.List.{cons_option, count_by, enumerate_from, range_with_len}
use Rattle.std.proofs.lemmas.Bool.{true≢false}
use Rattle.std.proofs.lemmas.List.Elements.{filter_map-append}
use Rattle.std.proofs.lemmas.List.Sums.{sum_by-cons}
use Rattle.fix_dictionary.specs.declared.values.Side.{Side}
use Rattle.fix_dictionary.specs.declared.values.Side.TheVariants.{Buy, Sell}
use Rattle.venue_rules.specs.declared.facts.Fact.{Fact}
use Rattle.venue_rules.specs.declared.facts.Fact.TheVariants.{Traded}
use Rattle.venue_rules.specs.declared.facts.Entry.{Entry}
use Rattle.venue_rules.specs.declared.facts.Trade.{Trade}
use Rattle.venue_rules.specs.declared.replies.Reply.{Reply}
use Rattle.venue_rules.specs.declared.replies.ReplyBody.TheVariants.{OrderUnfilled}
use Rattle.instruments.specs.Listing.{symbol_of}
use Rattle.venue_rules.specs.Market.{Market}
use Rattle.venue_rules.specs.Facts.{History, next_trade, trades, trade_in}
use Rattle.venue_rules.specs.Book.{Resting, Fill, against, fills, filled, filled_by, is_day, is_side, opposite, paired, shares}
use Rattle.venue_rules.specs.Rooms.{printed}
use Rattle.venue_rules.specs.Answer.{Answer, first_of, numbered, reply}
use Rattle.venue_rules.specs.Entering.{buyer, entry_facts, entry_reports, fill_report, fill_reports, order_report, trade_of, unfilled_reports}
use Rattle.venue_rules.specs.Messages.{message}
use Rattle.venue_rules.specs.Run.{is_report}
use Rattle.venue_rules.specs.Reported.{Emitted, execution_id, execution_ids, emitted_in, to_be_emitted, trades_emitted}
use Rattle.venue_rules.proofs.Members.{In, In-filter}
use Rattle.venue_rules.proofs.Lefts.{In-resting, rests_side, rests_instrument}

-- The numbering of an answer's reports, and the trades that they report.

abbrev pub reports_in : List Reply → ℕ
reports_in [] = 0
reports_in (r ∷ rs) = cond (is_report r.what) (suc (reports_in rs)) (reports_in rs)

count_one : (b : Bool) (n : ℕ) → cond b 1 0 + n ≡ cond b (suc n) n
count_one true n = omega arith
count_one false n = omega arith

pub count_reports : (rs : List Reply) → count_by (λ (r : Reply). is_report r.what) rs ≡ reports_in rs
count_reports [] = refl
count_reports (r ∷ rs) =
    sum_by-cons (λ (x : Reply). cond (is_report x.what) 1 0) r rs ∙ (ap (λ n. cond (is_report r.what) 1 0 + n) (count_reports rs) ∙ count_one (is_report r.what) (reports_in rs))

-- the reports of trades numbered on from this number
abbrev pub emits : Market → Side → ℕ → List Trade → List Emitted
emits m side n ts = map (to_be_emitted m side) (enumerate_from n ts)

-- an answer's reports have the next numbers, and report each of its trades once to each side
abbrev pub Reports : Market → History → Answer → Type 0
Reports m h a =
    (execution_ids a.replies ≡ map (printed 69) (range_with_len (h.reports + 1) (reports_in a.replies)))
    × ((side : Side) → trades_emitted side a.replies ≡ emits m side (next_trade h.facts) (trades a.facts))

-- the first refusal that holds

abbrev pub AllReport : Market → History → List (Bool × Answer) → Type 0
AllReport m h [] = Unit {0}
AllReport m h (r ∷ rs) = Reports m h r.1 × AllReport m h rs

first_case : (m : Market) (h : History) (b : Bool) (x y : Answer) → Reports m h x → Reports m h y → Reports m h (elim b [ true ↦ x | false ↦ y ])
first_case m h true x y k l = k
first_case m h false x y k l = l

pub first_of-Reports : (m : Market) (h : History) (rs : List (Bool × Answer)) (x : Answer) → AllReport m h rs → Reports m h x → Reports m h (first_of rs x)
first_of-Reports m h [] x n k = k
first_of-Reports m h (r ∷ rs) x n k = first_case m h r.0 r.1 (first_of rs x) n.0 (first_of-Reports m h rs x n.1 k)

-- replies without a report

pub record IsQuiet (rs : List Reply) : Type 0 where
  pub count : reports_in rs ≡ 0
  pub ids : execution_ids rs ≡ []
  pub emitted : (side : Side) → trades_emitted side rs ≡ []

pub quiet-Reports : (m : Market) (h : History) (a : Answer) → IsQuiet a.replies → trades a.facts ≡ [] → Reports m h a
quiet-Reports m h a q e = (
  q.ids ∙ sym (ap (λ n. map (printed 69) (range_with_len (h.reports + 1) n)) q.count),
  λ side. q.emitted side ∙ sym (ap (emits m side (next_trade h.facts)) e),
)

-- reports before numbering

abbrev pub IsMaker : (ℕ → Reply) → Type 0
IsMaker f =
    (k : ℕ) → (is_report (f k).what ≡ true) × (execution_id (message (f k).what) ≡ Some (printed 69 k)) × ((side : Side) → emitted_in side (f k).to (message (f k).what) ≡ emitted_in side (f 0).to (message (f 0).what))

abbrev pub AreMakers : List (ℕ → Reply) → Type 0
AreMakers [] = Unit {0}
AreMakers (f ∷ fs) = IsMaker f × AreMakers fs

pub AreMakers-append : (fs gs : List (ℕ → Reply)) → AreMakers fs → AreMakers gs → AreMakers (fs ++ gs)
AreMakers-append [] gs a b = b
AreMakers-append (f ∷ fs) gs a b = (a.0, AreMakers-append fs gs a.1 b)

counted : (b : Bool) (n : ℕ) → b ≡ true → cond b (suc n) n ≡ suc n
counted true n h = refl
counted false n h = absurd (true≢false (sym h))

pub numbered_ids : (n : ℕ) (fs : List (ℕ → Reply)) → AreMakers fs → execution_ids (numbered n fs) ≡ map (printed 69) (range_with_len (n + 1) (reports_in (numbered n fs)))
numbered_ids n [] w = refl
numbered_ids n (f ∷ fs) w =
    ap (λ o. cons_option o (execution_ids (numbered (n + 1) fs))) (w.0 (n + 1)).1
    ∙ (ap (λ xs. printed 69 (n + 1) ∷ xs) (numbered_ids (n + 1) fs w.1) ∙ sym (ap (λ k. map (printed 69) (range_with_len (n + 1) k)) (counted (is_report (f (n + 1)).what) (reports_in (numbered (n + 1) fs)) (w.0 (n + 1)).0)))

-- a report's trade, for any number
abbrev pub emitted_by : Side → (ℕ → Reply) → Option Emitted
emitted_by side f = emitted_in side (f 0).to (message (f 0).what)

pub numbered_emitted : (side : Side) (n : ℕ) (fs : List (ℕ → Reply)) → AreMakers fs → trades_emitted side (numbered n fs) ≡ filter_map (emitted_by side) fs
numbered_emitted side n [] w = refl
numbered_emitted side n (f ∷ fs) w = ap (λ o. cons_option o (trades_emitted side (numbered (n + 1) fs))) ((w.0 (n + 1)).2 side) ∙ ap (cons_option (emitted_by side f)) (numbered_emitted side (n + 1) fs w.1)

-- an order's fills are with orders of the other side in its instrument

abbrev AreOpposite : Entry → List Fill → Type 0
AreOpposite e [] = Unit {0}
AreOpposite e (f ∷ fs) = ((f.resting.entry.order.side ≡ opposite e.order.side) × (f.resting.entry.order.instrument ≡ e.order.instrument)) × AreOpposite e fs

same_side : (a b : Side) → is_side a b ≡ true → a ≡ b
same_side Buy Buy h = refl
same_side Buy Sell h = absurd (true≢false (sym h))
same_side Sell Buy h = absurd (true≢false (sym h))
same_side Sell Sell h = refl

pub In-paired : (rs : List Resting) (qs : List ℕ) (f : Fill) → In f (paired rs qs) → In f.resting rs
In-paired [] qs f i = absurd i
In-paired (r ∷ rs) [] f i = absurd i
In-paired (r ∷ rs) (q ∷ qs) f (inl e) = inl (ap (λ (g : Fill). g.resting) e)
In-paired (r ∷ rs) (q ∷ qs) f (inr i) = inr (In-paired rs qs f i)

each_opposite : (e : Entry) (fs : List Fill) → ((f : Fill) → In f fs → (f.resting.entry.order.side ≡ opposite e.order.side) × (f.resting.entry.order.instrument ≡ e.order.instrument)) → AreOpposite e fs
each_opposite e [] h = tt
each_opposite e (f ∷ fs) h = (h f (inl refl), each_opposite e fs (λ g i. h g (inr i)))

unless_killed : (e : Entry) (b : Bool) (fs : List Fill) → AreOpposite e fs → AreOpposite e (if b then [] else fs)
unless_killed e true fs k = tt
unless_killed e false fs k = k

fills-AreOpposite : (facts : List Fact) (e : Entry) → AreOpposite e (fills facts e.order)
fills-AreOpposite facts e = unless_killed e _ (filter positive pairs) (each_opposite e (filter positive pairs) of)
  where
    positive : Fill → Bool
    positive f = nat_lt 0 f.quantity

    pairs : List Fill
    pairs = paired (against facts e.order) (shares e.order.quantity (map (λ (r : Resting). r.left) (against facts e.order)))

    of : (f : Fill) → In f (filter positive pairs) → (f.resting.entry.order.side ≡ opposite e.order.side) × (f.resting.entry.order.instrument ≡ e.order.instrument)
    of f i =
        let there = In-filter _ _ f.resting (In-paired (against facts e.order) _ f (In-filter positive pairs f i).0) in
        let rest = (In-resting facts e.order.instrument (opposite e.order.side) f.resting there.0).2 in
        (same_side f.resting.entry.order.side (opposite e.order.side) (rests_side e.order.instrument (opposite e.order.side) f.resting rest), rests_instrument e.order.instrument (opposite e.order.side) f.resting rest)

-- the two reports of a trade, one to the buyer and one to the seller

abbrev party_of : Side → Side → ℕ → ℕ → ℕ
party_of Buy s w v = buyer s w v
party_of Sell s w v = buyer s v w

two_emitted : (C : ℕ → Emitted) (w v : ℕ) (rest : List Emitted) (side s o : Side) → o ≡ opposite s
    → cons_option (if is_side s side then Some (C w) else None) (cons_option (if is_side o side then Some (C v) else None) rest) ≡ C (party_of side s w v) ∷ rest
two_emitted C w v rest Buy Buy o e = ap (λ x. C w ∷ cons_option (if is_side x Buy then Some (C v) else None) rest) e
two_emitted C w v rest Buy Sell o e = ap (λ x. cons_option (if is_side x Buy then Some (C v) else None) rest) e
two_emitted C w v rest Sell Buy o e = ap (λ x. cons_option (if is_side x Sell then Some (C v) else None) rest) e
two_emitted C w v rest Sell Sell o e = ap (λ x. C w ∷ cons_option (if is_side x Sell then Some (C v) else None) rest) e

emitted_party : (m : Market) (e : Entry) (f : Fill) (number : ℕ) (side : Side) → to_be_emitted m side (number, trade_of e f) ≡ record (to_be_emitted m side (number, trade_of e f)) { who = party_of side e.order.side e.order.who f.resting.entry.order.who }
emitted_party m e f number Buy = refl
emitted_party m e f number Sell = refl

fill_emitted : (m : Market) (e : Entry) (f : Fill) (left filled left' filled' number : ℕ) (rest : List Emitted) (side : Side) → f.resting.entry.order.side ≡ opposite e.order.side → f.resting.entry.order.instrument ≡ e.order.instrument
    → cons_option (emitted_by side (fill_report m e left filled f number)) (cons_option (emitted_by side (fill_report m f.resting.entry left' filled' f number)) rest) ≡ to_be_emitted m side (number, trade_of e f) ∷ rest
fill_emitted m e f left filled left' filled' number rest side other here =
    ap (λ x. cons_option (emitted_by side (fill_report m e left filled f number)) (cons_option (if is_side f.resting.entry.order.side side then Some (emitted f.resting.entry.order.who x) else None) rest)) here
    ∙ (two_emitted (λ w. emitted w e.order.instrument) e.order.who f.resting.entry.order.who rest side e.order.side f.resting.entry.order.side other ∙ ap (λ x. x ∷ rest) (sym (emitted_party m e f number side)))
  where
    emitted : ℕ → ℕ → Emitted
    emitted w x = record { who = w; symbol = symbol_of m.instruments x; trade = printed 84 number; price = Some f.resting.entry.order.price; quantity = Some f.quantity }

-- the trades of an order's fills

abbrev traded_facts : Entry → List Fill → List Fact
traded_facts e fs = map (λ f. Traded (trade_of e f)) fs

fills_emitted : (m : Market) (e : Entry) (all : List Fill) (trade : ℕ) (side : Side) (j : ℕ) (fs : List Fill) → AreOpposite e fs
    → filter_map (emitted_by side) (flat_map (fill_reports m e all trade) (enumerate_from j fs)) ≡ emits m side (trade + j) (trades (traded_facts e fs))
fills_emitted m e all trade side j [] k = refl
fills_emitted m e all trade side j (f ∷ fs) k =
    fill_emitted m e f (e.order.quantity - filled_by (take (j + 1) all)) (e.filled_before + filled_by (take (j + 1) all)) (f.resting.left - f.quantity) (filled f.resting + f.quantity) (trade + j) (filter_map (emitted_by side) (flat_map (fill_reports m e all trade) (enumerate_from (j + 1) fs))) side k.0.0 k.0.1
    ∙ ap (λ xs. to_be_emitted m side (trade + j, trade_of e f) ∷ xs) (fills_emitted m e all trade side (j + 1) fs k.1 ∙ ap (λ n. emits m side n (trades (traded_facts e fs))) (next trade j))
  where
    next : (a b : ℕ) → a + (b + 1) ≡ a + b + 1
    next a b = omega arith

fills_makers : (m : Market) (e : Entry) (all : List Fill) (trade j : ℕ) (fs : List Fill) → AreMakers (flat_map (fill_reports m e all trade) (enumerate_from j fs))
fills_makers m e all trade j [] = tt
fills_makers m e all trade j (f ∷ fs) = ((λ k. (refl, refl, λ side. refl)), ((λ k. (refl, refl, λ side. refl)), fills_makers m e all trade (j + 1) fs))

abbrev unfilled : Market → Entry → List Fill → Bool → List (ℕ → Reply)
unfilled m e fs b = if b then (λ n. reply e.order.who (OrderUnfilled (order_report m e 0 (e.filled_before + filled_by fs) n))) ∷ [] else []

unfilled_makers : (m : Market) (e : Entry) (fs : List Fill) (b : Bool) → AreMakers (unfilled m e fs b)
unfilled_makers m e fs true = ((λ k. (refl, refl, λ side. refl)), tt)
unfilled_makers m e fs false = tt

unfilled_emitted : (m : Market) (e : Entry) (fs : List Fill) (b : Bool) (side : Side) → filter_map (emitted_by side) (unfilled m e fs b) ≡ []
unfilled_emitted m e fs true side = refl
unfilled_emitted m e fs false side = refl

pub entry-AreMakers : (m : Market) (facts : List Fact) (e : Entry) (fs : List Fill) → AreMakers (entry_reports m facts e fs)
entry-AreMakers m facts e fs = AreMakers-append (flat_map (fill_reports m e fs (next_trade facts)) (enumerate_from 0 fs)) (unfilled_reports m e fs) (fills_makers m e fs (next_trade facts) 0 fs) (unfilled_makers m e fs (not (is_day e.order.life) && nat_lt (filled_by fs) e.order.quantity))

pub entry_emitted : (m : Market) (facts : List Fact) (e : Entry) (fs : List Fill) (side : Side) → AreOpposite e fs → filter_map (emitted_by side) (entry_reports m facts e fs) ≡ emits m side (next_trade facts) (trades (entry_facts e fs))
entry_emitted m facts e fs side k =
    filter_map-append (emitted_by side) (flat_map (fill_reports m e fs (next_trade facts)) (enumerate_from 0 fs)) (unfilled_reports m e fs)
    ∙ (ap (λ xs. filter_map (emitted_by side) (flat_map (fill_reports m e fs (next_trade facts)) (enumerate_from 0 fs)) ++ xs) (unfilled_emitted m e fs (not (is_day e.order.life) && nat_lt (filled_by fs) e.order.quantity) side)
    ∙ (append-nil _ ∙ (fills_emitted m e fs (next_trade facts) side 0 fs k ∙ ap (λ n. emits m side n (trades (traded_facts e fs))) (from_zero (next_trade facts)))))
  where
    from_zero : (n : ℕ) → n + 0 ≡ n
    from_zero n = omega arith

-- an order that enters after one report of another kind, such as the one that it is new
pub entered-Reports : (m : Market) (h : History) (e : Entry) (first : ℕ → Reply) → IsMaker first → ((side : Side) → emitted_by side first ≡ None) → (before : List Fact) → trades before ≡ []
    → Reports m h (record { facts = before ++ entry_facts e (fills h.facts e.order); replies = numbered h.reports (first ∷ entry_reports m h.facts e (fills h.facts e.order)) })
entered-Reports m h e first maker silent before none = (
  numbered_ids h.reports (first ∷ entry_reports m h.facts e (fills h.facts e.order)) makers,
  λ side. numbered_emitted side h.reports (first ∷ entry_reports m h.facts e (fills h.facts e.order)) makers
      ∙ (ap (λ o. cons_option o (filter_map (emitted_by side) (entry_reports m h.facts e (fills h.facts e.order)))) (silent side)
      ∙ (entry_emitted m h.facts e (fills h.facts e.order) side (fills-AreOpposite h.facts e) ∙ sym (ap (emits m side (next_trade h.facts)) more))),
)
  where
    makers : AreMakers (first ∷ entry_reports m h.facts e (fills h.facts e.order))
    makers = (maker, entry-AreMakers m h.facts e (fills h.facts e.order))

    more : trades (before ++ entry_facts e (fills h.facts e.order)) ≡ trades (entry_facts e (fills h.facts e.order))
    more = filter_map-append trade_in before (entry_facts e (fills h.facts e.order)) ∙ ap (λ ts. ts ++ trades (entry_facts e (fills h.facts e.order))) none
