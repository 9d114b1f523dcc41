-- What is kept of crosses: each cross of the inputs, with the order that entered by it and the name of the side that it
-- holds.
use Rattle.std.proofs.Common.{◌≡◌, refl, sym, ap, subst, ◌∙◌, ◌⊎◌, inl, inr, ℕ, ◌+◌, ◌==◌, Bool, true, false, not, ◌&&◌, ◌||◌, nat_lt, if◌then◌else◌, List, [], ◌∷◌, ◌++◌, map, Option, Some, None, append-nil, append_assoc, eqb-true, eq-eqb, Contains}
use Rattle.std.specs.Prelude.{bytes_eq, is_none}
use Rattle.std.specs.List.{cons_option, enumerate_from, filter_map, flat_map, list_any}
use Rattle.std.proofs.lemmas.Bool.{true≢false}
use Rattle.std.proofs.lemmas.List.Elements.{filter_map-append}
use Rattle.std.proofs.lemmas.Slice.Eq.{bytes_eq-Decides}
use Rattle.fix_dictionary.specs.declared.messages.App.{App}
use Rattle.fix_dictionary.specs.declared.messages.App.TheVariants.{QuoteRequest, Quote, QuoteCancel, QuoteResponse, QuoteStatusReport, QuoteRequestReject, NewOrderSingle, OrderCancelRequest, OrderCancelReplaceRequest, NewOrderCross, ExecutionReport, OrderCancelReject, MarketDataRequest, MarketDataSnapshot, MarketDataRequestReject, BusinessMessageReject, Unsupported}
use Rattle.fix_dictionary.specs.declared.messages.CrossSide.{CrossSide}
use Rattle.fix_dictionary.specs.declared.messages.NewOrderCross.{NewOrderCross as CrossMessage}
use Rattle.instruments.specs.Listing.{delay_of, instrument_of}
use Rattle.venue_rules.specs.declared.facts.Entry.{Entry}
use Rattle.venue_rules.specs.declared.facts.Fact.{Fact}
use Rattle.venue_rules.specs.declared.facts.Fact.TheVariants as fact
use Rattle.venue_rules.specs.declared.facts.HeldSide.{HeldSide}
use Rattle.venue_rules.specs.declared.facts.OrderFact.{OrderFact}
use Rattle.venue_rules.specs.declared.replies.Reply.{Reply}
use Rattle.venue_rules.specs.declared.replies.ReplyBody.{ReplyBody}
use Rattle.venue_rules.specs.declared.replies.ReplyBody.TheVariants as what
use Rattle.venue_rules.specs.declared.trail.Taken.{Taken}
use Rattle.venue_rules.specs.Answer.{Answer, Sender, first_of, numbered, reply}
use Rattle.venue_rules.specs.Answers.{answer_app, type_of}
use Rattle.venue_rules.specs.Book.{Fill, fills, filled_by, is_day}
use Rattle.venue_rules.specs.Crosses.{answer_cross, cross_accepted, cross_refusals, side_order, first_side, second_side, is_first}
use Rattle.venue_rules.specs.Delay.{due, earlier, earliest, held}
use Rattle.venue_rules.specs.Entering.{entering, fill_reports, order_report, trade_of, unfilled_reports}
use Rattle.venue_rules.specs.Facts.{History, entries, entry_in, held_in, held_sides, is_name, is_order_id_used, next_trade, no_history, uses_order_id}
use Rattle.venue_rules.specs.Market.{Market}
use Rattle.venue_rules.specs.Orders.{accepted}
use Rattle.venue_rules.specs.Run.{Input, Message, Tick, after, answer_input, run, run_from}
use Rattle.trade_table.specs.declared.execution.CrossEntered.{CrossEntered}
use Rattle.trade_table.specs.declared.execution.Known.{Known}
use Rattle.trade_table.specs.declared.execution.Known.TheVariants as known
use Rattle.trade_table.specs.declared.execution.SideFilled.{SideFilled}
use Rattle.trade_table.specs.Executions.{taken_in}
use Rattle.trade_table.specs.Laws.{CameFrom, IsCross, IsCrossNamed, side_due}
use Rattle.trade_table.specs.Sources.{cross_joined, cross_known, cross_of, crossed_in, joins, known_at, known_by, newest, or, other_side, quote_known, quote_sent, quoted_in, side_entered, side_what}
use Rattle.trade_table.proofs.Learning.{All, NoSide, accepted_adds, app_sides, due_or_none_adds}
use Rattle.venue_rules.proofs.Members.{Contains-from_In, In, In-append_cases, In-append_left, In-append_right, In-filter_map, In-from_Contains, picked_from}
use Rattle.trade_blotter.proofs.Lists.{In-filtered, none_is_some, same_some}

-- Booleans.

and_left : (a b : Bool) → (a && b) ≡ true → a ≡ true
and_left true b e = refl
and_left false b e = absurd (true≢false (sym e))

and_right : (a b : Bool) → (a && b) ≡ true → b ≡ true
and_right true b e = e
and_right false b e = absurd (true≢false (sym e))

both_true : (a b : Bool) → a ≡ true → b ≡ true → (a && b) ≡ true
both_true true b e k = k
both_true false b e k = absurd (true≢false (sym e))

or_first : (a b : Bool) → (a || b) ≡ false → a ≡ false
or_first true b e = absurd (true≢false e)
or_first false b e = refl

or_second : (a b : Bool) → (a || b) ≡ false → b ≡ false
or_second true b e = absurd (true≢false e)
or_second false b e = e

some_passes : {X : Type 0} (p : X → Bool) (xs : List X) (x : X) → In x xs → p x ≡ true → list_any p xs ≡ true
some_passes p [] x i e = absurd i
some_passes p (y ∷ ys) x (inl same) e = ap (λ (b : Bool). b || list_any p ys) (ap p same ∙ e)
some_passes p (y ∷ ys) x (inr i) e = by (p y) (some_passes p ys x i e)
  where
    by : (b : Bool) → list_any p ys ≡ true → (b || list_any p ys) ≡ true
    by true k = refl
    by false k = k

-- Held sides of the facts.

side_fact : (f : Fact) (k : HeldSide) → held_in f ≡ Some k → f ≡ fact.Held k
side_fact (fact.Held x) k h = ap (λ (y : HeldSide). fact.Held y) (same_some x k h)
side_fact (fact.Entered x) k h = absurd (none_is_some k h)
side_fact (fact.Traded x) k h = absurd (none_is_some k h)
side_fact (fact.Removed x) k h = absurd (none_is_some k h)
side_fact (fact.Unheld x) k h = absurd (none_is_some k h)
side_fact (fact.Asked x) k h = absurd (none_is_some k h)
side_fact (fact.Quoted x) k h = absurd (none_is_some k h)
side_fact (fact.Withdrawn x) k h = absurd (none_is_some k h)
side_fact (fact.Closed x) k h = absurd (none_is_some k h)

own_name : (who : ℕ) (id : List ℕ) → is_name who id who id ≡ true
own_name who id = both_true (who == who) (bytes_eq id id) (eq-eqb who who refl) ((bytes_eq-Decides id id).1 refl)

-- its identifier is used
side_used : (fs : List Fact) (k : HeldSide) → In k (held_sides fs) → is_order_id_used fs k.order.who k.order.id ≡ true
side_used fs k i =
    let x = picked_from held_in fs k i in
    some_passes (uses_order_id k.order.who k.order.id) fs (fact.Held k) (subst (λ (f : Fact). In f fs) (side_fact x.0 k x.2) x.1) (own_name k.order.who k.order.id)

In-earlier : (h : HeldSide) (o : Option HeldSide) (hs : List HeldSide) (k : HeldSide) → ((j : HeldSide) → o ≡ Some j → In j hs) → earlier h o ≡ Some k → In k (h ∷ hs)
In-earlier h None hs k rest e = inl (same_some h k e)
In-earlier h (Some j) hs k rest e = by (nat_lt j.due h.due) e
  where
    by : (b : Bool) → (if b then Some j else Some h) ≡ Some k → In k (h ∷ hs)
    by true e = inr (subst (λ (x : HeldSide). In x hs) (same_some j k e) (rest j refl))
    by false e = inl (same_some h k e)

In-earliest : (hs : List HeldSide) (k : HeldSide) → earliest hs ≡ Some k → In k hs
In-earliest [] k e = absurd (none_is_some k e)
In-earliest (h ∷ hs) k e = In-earlier h (earliest hs) hs k (λ j. In-earliest hs j) e

due_is_held : (fs : List Fact) (t : ℕ) (k : HeldSide) → due fs t ≡ Some k → In k (held_sides fs)
due_is_held fs t k e = In-filtered _ (held_sides fs) k (In-filtered _ (held fs) k (In-earliest _ k e))

side_due_held : (h : History) (i : Input) (k : HeldSide) → side_due h i ≡ Some k → In k (held_sides h.facts)
side_due_held h (Message taken t) k e = absurd (none_is_some k e)
side_due_held h (Tick t) k e = due_is_held h.facts t k e

-- Facts of a run.

runs_join : (m : Market) (h : History) (is js : List Input) → (run_from m h (is ++ js)).history ≡ (run_from m (run_from m h is).history js).history
runs_join m h [] js = refl
runs_join m h (i ∷ is) js = runs_join m (after h (answer_input m h i)) is js

in_run : (m : Market) (h : History) (is : List Input) (f : Fact) → In f h.facts → In f (run_from m h is).history.facts
in_run m h [] f i = i
in_run m h (j ∷ js) f i = in_run m (after h (answer_input m h j)) js f (In-append_left h.facts (answer_input m h j).facts f i)

cross_is_held : (m : Market) (is : List Input) (order : ℕ) (k : HeldSide) → IsCross m is order k → In k (held_sides (run m is).history.facts)
cross_is_held m is order k x =
    let h = (run m x.earlier).history in
    let i = Message x.taken x.at in
    let a = answer_input m h i in
    let there = in_run m (after h a) x.later (fact.Held k) (In-append_right h.facts a.facts (fact.Held k) (In-from_Contains a.facts (fact.Held k) x.was_held)) in
    In-filter_map held_in (run m is).history.facts (fact.Held k) k (subst (λ (g : History). In (fact.Held k) g.facts) (sym (ap (λ (l : List Input). (run m l).history) x.inputs ∙ runs_join m no_history x.earlier (i ∷ x.later))) there) refl

-- One input more.

-- a cross stands in other inputs that begin as those do
cross_in : (m : Market) (is js : List Input) (order : ℕ) (k : HeldSide) (x : IsCross m is order k) (later : List Input) → js ≡ x.earlier ++ Message x.taken x.at ∷ later → IsCross m js order k
cross_in m is js order k x later e = record {
  earlier = x.earlier;
  taken = x.taken;
  at = x.at;
  later = later;
  inputs = e;
  message = x.message;
  crosses = x.crosses;
  named = x.named;
  entry = x.entry;
  number_is = x.number_is;
  entered = x.entered;
  was_held = x.was_held;
}

cross_more : (m : Market) (is : List Input) (i : Input) (order : ℕ) (k : HeldSide) → IsCross m is order k → IsCross m (is ++ i ∷ []) order k
cross_more m is i order k x = cross_in m is (is ++ i ∷ []) order k x (x.later ++ i ∷ []) (ap (λ (l : List Input). l ++ i ∷ []) x.inputs ∙ append_assoc x.earlier (Message x.taken x.at ∷ x.later) (i ∷ []))

head_same : (i j : Input) (is js : List Input) → i ∷ is ≡ j ∷ js → i ≡ j
head_same i j is js e = cc

tail_same : (i j : Input) (is js : List Input) → i ∷ is ≡ j ∷ js → is ≡ js
tail_same i j is js e = cc

never_empty : (i : Input) (is : List Input) → [] ≡ i ∷ is → ⊥
never_empty i is e = cc

-- where an input stands: among those before, or last
abbrev Stands : List Input → Input → List Input → Input → List Input → Type 0
Stands done i earlier j later = ((l : List Input) × (done ≡ earlier ++ j ∷ l)) ⊎ ((done ≡ earlier) × (i ≡ j))

stands : (done : List Input) (i : Input) (earlier : List Input) (j : Input) (later : List Input) → done ++ i ∷ [] ≡ earlier ++ j ∷ later → Stands done i earlier j later
stands [] i [] j later e = inr (refl, head_same i j [] later e)
stands [] i (x ∷ []) j later e = absurd (never_empty j later (tail_same i x [] (j ∷ later) e))
stands [] i (x ∷ y ∷ xs) j later e = absurd (never_empty y (xs ++ j ∷ later) (tail_same i x [] (y ∷ xs ++ j ∷ later) e))
stands (d ∷ done) i [] j later e = inl (done, ap (λ (x : Input). x ∷ done) (head_same d j (done ++ i ∷ []) later e))
stands (d ∷ done) i (x ∷ xs) j later e = by (stands done i xs j later (tail_same d x (done ++ i ∷ []) (xs ++ j ∷ later) e))
  where
    first : d ≡ x
    first = head_same d x (done ++ i ∷ []) (xs ++ j ∷ later) e

    by : Stands done i xs j later → Stands (d ∷ done) i (x ∷ xs) j later
    by (inl s) = inl (s.0, (λ k. first k ∷ s.1 k))
    by (inr s) = inr ((λ k. first k ∷ s.0 k), s.1)

-- What is learned of crosses by an answer.

-- one cross: the order that entered, and the side that is held, whose identifier was new
pub record Crosses (h : History) (d : CrossMessage) (x : Answer) : Type 0 where
  pub entry : Entry
  pub side : HeldSide
  pub only : entries x.facts ≡ entry ∷ []
  pub sides : held_sides x.facts ≡ side ∷ []
  pub named : d.cross_id ≡ side.cross
  pub fresh : is_order_id_used h.facts side.order.who side.order.id ≡ false
  pub entered : In (fact.Entered entry) x.facts
  pub was_held : In (fact.Held side) x.facts
  pub kept : CrossEntered
  pub learned : flat_map (known_by (NewOrderCross d)) x.replies ≡ known.Cross kept ∷ []
  pub order : kept.order ≡ entry.number
  pub who : kept.who ≡ side.order.who
  pub second : kept.second ≡ side.order.id
  pub cross : kept.cross ≡ side.cross

-- no cross
abbrev NoCross : List Known → Type 0
NoCross ks = (x : CrossEntered) → In (known.Cross x) ks → ⊥

abbrev Turns : History → App → Answer → Type 0
Turns h a x = (NoCross (flat_map (known_by a) x.replies) × NoSide x) ⊎ ((d : CrossMessage) × (a ≡ NewOrderCross d) × Crosses h d x)

no_cross_append : (xs ys : List Known) → NoCross xs → NoCross ys → NoCross (xs ++ ys)
no_cross_append xs ys a b x i = by (In-append_cases xs ys (known.Cross x) i)
  where
    by : In (known.Cross x) xs ⊎ In (known.Cross x) ys → ⊥
    by (inl k) = a x k
    by (inr k) = b x k

no_such : (n : ℕ) (id : List ℕ) (x : CrossEntered) → known.Quote (record { number = n; id = id }) ≡ known.Cross x → ⊥
no_such n id x e = cc

quote_no_cross : (o : Option (List ℕ)) (r : ReplyBody) → NoCross (quote_known o r)
quote_no_cross None r x i = i
quote_no_cross (Some id) (what.QuoteSent q) x (inl e) = no_such q.quote id x e
quote_no_cross (Some id) (what.QuoteSent q) x (inr i) = i
quote_no_cross (Some id) (what.OrderEntered r) x i = i
quote_no_cross (Some id) (what.OrderFilled r) x i = i
quote_no_cross (Some id) (what.OrderReplaced r) x i = i
quote_no_cross (Some id) (what.OrderRefused r) x i = i
quote_no_cross (Some id) (what.CrossRefused r) x i = i
quote_no_cross (Some id) (what.OrderUnfilled r) x i = i
quote_no_cross (Some id) (what.OrderCancelled r) x i = i
quote_no_cross (Some id) (what.ChangeRefused r) x i = i
quote_no_cross (Some id) (what.RequestSent r) x i = i
quote_no_cross (Some id) (what.RequestRefused r) x i = i
quote_no_cross (Some id) (what.QuoteStatus r) x i = i
quote_no_cross (Some id) (what.BookSnapshot r) x i = i
quote_no_cross (Some id) (what.MarketDataReject r) x i = i
quote_no_cross (Some id) (what.RoomTraded r) x i = i
quote_no_cross (Some id) (what.BusinessReject r) x i = i

none_crossed : (a : App) (rs : List Reply) → crossed_in a ≡ None → NoCross (flat_map (known_by a) rs)
none_crossed a [] none = λ x i. i
none_crossed a (r ∷ rs) none = no_cross_append (known_by a r) (flat_map (known_by a) rs)
    (no_cross_append (quote_known (quoted_in a) r.what) (cross_known (crossed_in a) r.to r.what) (quote_no_cross (quoted_in a) r.what) (subst (λ (o : Option CrossMessage). NoCross (cross_known o r.to r.what)) (sym none) (λ x i. i)))
    (none_crossed a rs none)

-- a cross that is accepted

trades_entered : (e : Entry) (fs : List Fill) → entries (map (λ (f : Fill). fact.Traded (trade_of e f)) fs) ≡ []
trades_entered e [] = refl
trades_entered e (f ∷ fs) = trades_entered e fs

unfilled_silent : (d : CrossMessage) (m : Market) (e : Entry) (fs : List Fill) (n : ℕ) (b : Bool)
    → flat_map (known_by (NewOrderCross d)) (numbered n (if b then (λ k. reply e.order.who (what.OrderUnfilled (order_report m e 0 (e.filled_before + filled_by fs) k))) ∷ [] else [])) ≡ []
unfilled_silent d m e fs n true = refl
unfilled_silent d m e fs n false = refl

entry_silent : (d : CrossMessage) (m : Market) (e : Entry) (all : List Fill) (trade j n : ℕ) (fs : List Fill)
    → flat_map (known_by (NewOrderCross d)) (numbered n (flat_map (fill_reports m e all trade) (enumerate_from j fs) ++ unfilled_reports m e all)) ≡ []
entry_silent d m e all trade j n [] = unfilled_silent d m e all n (not (is_day e.order.life) && nat_lt (filled_by all) e.order.quantity)
entry_silent d m e all trade j n (f ∷ fs) = entry_silent d m e all trade (j + 1) (n + 1 + 1) fs

other_is_second : (d : CrossMessage) → other_side d (first_side d).order_id ≡ (second_side d).order_id
other_is_second d = by (is_first d d.first)
  where
    same : (c : Bool) → bytes_eq d.second.order_id d.first.order_id ≡ c → (if c then d.second.order_id else d.first.order_id) ≡ d.first.order_id
    same true e = (bytes_eq-Decides d.second.order_id d.first.order_id).0 e
    same false e = refl

    by : (b : Bool) → other_side d (if b then d.first else d.second).order_id ≡ (if b then d.second else d.first).order_id
    by true = ap (λ (c : Bool). if c then d.second.order_id else d.first.order_id) ((bytes_eq-Decides d.first.order_id d.first.order_id).1 refl)
    by false = same (bytes_eq d.second.order_id d.first.order_id) refl

cross_crosses : (m : Market) (h : History) (s : Sender) (d : CrossMessage) (t : ℕ) → is_order_id_used h.facts s.who (second_side d).order_id ≡ false → Crosses h d (cross_accepted m h s d t)
cross_crosses m h s d t fresh =
    let o = side_order m s.who d (first_side d) in
    let e = entering h.facts o 0 t in
    let fs = fills h.facts o in
    let first = accepted m h o t in
    let side : HeldSide = record { order = side_order m s.who d (second_side d); cross = d.cross_id; due = t + delay_of m.instruments (instrument_of m.instruments d.symbol) } in
    let kept : CrossEntered = record { order = e.number; who = s.who; second = other_side d (first_side d).order_id; cross = d.cross_id } in
    record {
      entry = e;
      side = side;
      only = filter_map-append entry_in first.facts (fact.Held side ∷ []) ∙ (append-nil (entries first.facts) ∙ ap (λ (l : List Entry). e ∷ l) (trades_entered e fs));
      sides = filter_map-append held_in first.facts (fact.Held side ∷ []) ∙ ap (λ (l : List HeldSide). l ++ side ∷ []) (accepted_adds m h o t).1;
      named = refl;
      fresh = fresh;
      entered = In-append_left first.facts (fact.Held side ∷ []) (fact.Entered e) (inl refl);
      was_held = In-append_right first.facts (fact.Held side ∷ []) (fact.Held side) (inl refl);
      kept = kept;
      learned = ap (λ (l : List Known). known.Cross kept ∷ l) (entry_silent d m e fs (next_trade h.facts) 0 (h.reports + 1) fs);
      order = refl;
      who = refl;
      second = other_is_second d;
      cross = refl;
    }

-- what holds of each answer of a list, and where no refusal does of the last

abbrev NoneHolds : List (Bool × Answer) → Type 0
NoneHolds [] = Unit {0}
NoneHolds (r ∷ rs) = (r.0 ≡ false) × NoneHolds rs

first_case : (P : Answer → Type 0) (b c : Bool) (x y : Answer) → c ≡ b → P x → (c ≡ false → P y) → P (elim b [ true ↦ x | false ↦ y ])
first_case P true c x y e k l = k
first_case P false c x y e k l = l e

first_turns : (P : Answer → Type 0) (rs : List (Bool × Answer)) (x : Answer) → All P rs → (NoneHolds rs → P x) → P (first_of rs x)
first_turns P [] x n k = k tt
first_turns P (r ∷ rs) x n k = first_case P r.0 r.0 r.1 (first_of rs x) refl n.0 (λ e. first_turns P rs x n.1 (λ l. k (e, l)))

one_unused : (fs : List Fact) (who : ℕ) (a b : CrossSide) (c : Bool) → is_order_id_used fs who a.order_id ≡ false → is_order_id_used fs who b.order_id ≡ false → is_order_id_used fs who (if c then a else b).order_id ≡ false
one_unused fs who a b true free other = free
one_unused fs who a b false free other = other

cross_turns : (m : Market) (h : History) (s : Sender) (d : CrossMessage) (t : ℕ) → Turns h (NewOrderCross d) (answer_cross m h s d t)
cross_turns m h s d t =
    first_turns (Turns h (NewOrderCross d)) (cross_refusals m h s d t) (cross_accepted m h s d t) (inl ((λ x i. i), refl), (inl ((λ x i. i), refl), (inl ((λ x i. i), refl), (inl ((λ x i. i), refl), (inl ((λ x i. i), refl), (inl ((λ x i. i), refl), (inl ((λ x i. i), refl), (inl ((λ x i. i), refl), (inl ((λ x i. i), refl), (inl ((λ x i. i), refl), (inl ((λ x i. i), refl), tt)))))))))))
    (λ n. inr (d, refl, cross_crosses m h s d t (unused n)))
  where
    unused : NoneHolds (cross_refusals m h s d t) → is_order_id_used h.facts s.who (second_side d).order_id ≡ false
    unused n =
        let one = is_order_id_used h.facts s.who d.first.order_id in
        let two = is_order_id_used h.facts s.who d.second.order_id in
        let same = bytes_eq d.first.order_id d.second.order_id in
        let rest = or_second one (two || same) n.1.1.0 in
        one_unused h.facts s.who d.second d.first (is_first d d.first) (or_first two same rest) (or_first one (two || same) n.1.1.0)

other_turns : (m : Market) (h : History) (s : Sender) (a : App) (t : ℕ) → crossed_in a ≡ None → Turns h a (answer_app m h s a t)
other_turns m h s a t none = inl (none_crossed a (answer_app m h s a t).replies none, app_sides m h s a t none)

app_turns : (m : Market) (h : History) (s : Sender) (a : App) (t : ℕ) → Turns h a (answer_app m h s a t)
app_turns m h s (NewOrderCross d) t = cross_turns m h s d t
app_turns m h s (QuoteRequest d) t = other_turns m h s (QuoteRequest d) t refl
app_turns m h s (Quote d) t = other_turns m h s (Quote d) t refl
app_turns m h s (QuoteCancel d) t = other_turns m h s (QuoteCancel d) t refl
app_turns m h s (QuoteResponse d) t = other_turns m h s (QuoteResponse d) t refl
app_turns m h s (NewOrderSingle d) t = other_turns m h s (NewOrderSingle d) t refl
app_turns m h s (OrderCancelRequest d) t = other_turns m h s (OrderCancelRequest d) t refl
app_turns m h s (OrderCancelReplaceRequest d) t = other_turns m h s (OrderCancelReplaceRequest d) t refl
app_turns m h s (MarketDataRequest d) t = other_turns m h s (MarketDataRequest d) t refl
app_turns m h s (BusinessMessageReject d) t = other_turns m h s (BusinessMessageReject d) t refl
app_turns m h s (QuoteStatusReport d) t = other_turns m h s (QuoteStatusReport d) t refl
app_turns m h s (QuoteRequestReject d) t = other_turns m h s (QuoteRequestReject d) t refl
app_turns m h s (ExecutionReport d) t = other_turns m h s (ExecutionReport d) t refl
app_turns m h s (OrderCancelReject d) t = other_turns m h s (OrderCancelReject d) t refl
app_turns m h s (MarketDataSnapshot d) t = other_turns m h s (MarketDataSnapshot d) t refl
app_turns m h s (MarketDataRequestReject d) t = other_turns m h s (MarketDataRequestReject d) t refl
app_turns m h s (Unsupported kind) t = other_turns m h s (Unsupported kind) t refl

-- What is kept after these inputs.

-- a cross that is kept is one of the inputs
pub record IsKept (m : Market) (is : List Input) (x : CrossEntered) : Type 0 where
  pub side : HeldSide
  pub crossed : IsCross m is x.order side
  pub who : side.order.who ≡ x.who
  pub id : side.order.id ≡ x.second
  pub cross : side.cross ≡ x.cross

-- no two held sides have one name
abbrev pub Alone : List HeldSide → Type 0
Alone ks = (j k : HeldSide) → In j ks → In k ks → j.order.who ≡ k.order.who → j.order.id ≡ k.order.id → j ≡ k

abbrev pub Found : List Known → ℕ → HeldSide → Type 0
Found ks order side = (x : CrossEntered) × In (known.Cross x) ks × (x.order ≡ order) × (x.who ≡ side.order.who) × (x.second ≡ side.order.id)

-- and each cross of the inputs is kept
pub record AreKept (m : Market) (is : List Input) (ks : List Known) : Type 0 where
  pub sound : (x : CrossEntered) → In (known.Cross x) ks → IsKept m is x
  pub complete : (order : ℕ) (side : HeldSide) → IsCross m is order side → Found ks order side
  pub alone : Alone (held_sides (run m is).history.facts)

pub nothing_kept : (m : Market) → AreKept m [] []
nothing_kept m = record { sound = λ x i. absurd i; complete = λ order side x. absurd (none_before x.earlier (Message x.taken x.at) x.later x.inputs); alone = λ j k i. absurd i }
  where
    none_before : (before : List Input) (j : Input) (later : List Input) → [] ≡ before ++ j ∷ later → ⊥
    none_before [] j later e = never_empty j later e
    none_before (x ∷ xs) j later e = never_empty x (xs ++ j ∷ later) e

kept_more : (m : Market) (is : List Input) (i : Input) (x : CrossEntered) → IsKept m is x → IsKept m (is ++ i ∷ []) x
kept_more m is i x k = record { side = k.side; crossed = cross_more m is i x.order k.side k.crossed; who = k.who; id = k.id; cross = k.cross }

sides_more : (m : Market) (is : List Input) (i : Input) → held_sides (run m (is ++ i ∷ [])).history.facts ≡ held_sides (run m is).history.facts ++ held_sides (answer_input m (run m is).history i).facts
sides_more m is i = ap (λ (g : History). held_sides g.facts) (runs_join m no_history is (i ∷ [])) ∙ filter_map-append held_in (run m is).history.facts (answer_input m (run m is).history i).facts

found_more : (ks new : List Known) (order : ℕ) (side : HeldSide) → Found ks order side → Found (ks ++ new) order side
found_more ks new order side f = (f.0, In-append_left ks new (known.Cross f.0) f.1, f.2, f.3, f.4)

-- a fact of the answer to a cross that is the last input
at_last : (m : Market) (is : List Input) (i : Input) (earlier : List Input) (j : Input) (f : Fact) → is ≡ earlier → i ≡ j → Contains (answer_input m (run m earlier).history j).facts f → In f (answer_input m (run m is).history i).facts
at_last m is i earlier j f same last c =
    subst (λ (l : List Input). In f (answer_input m (run m l).history i).facts) (sym same)
    (subst (λ (k : Input). In f (answer_input m (run m earlier).history k).facts) (sym last) (In-from_Contains (answer_input m (run m earlier).history j).facts f c))

none_in : (l : List HeldSide) (k : HeldSide) → l ≡ [] → In k l → ⊥
none_in l k e i = subst (λ (x : List HeldSide). In k x) e i

only_in : {X : Type 0} (l : List X) (a b : X) → l ≡ a ∷ [] → In b l → a ≡ b
only_in l a b e i = by (subst (λ x. In b x) e i)
  where
    by : In b (a ∷ []) → a ≡ b
    by (inl k) = k
    by (inr k) = absurd k

kept_still : (m : Market) (is : List Input) (ks new : List Known) (i : Input) → NoCross new → NoSide (answer_input m (run m is).history i) → AreKept m is ks → AreKept m (is ++ i ∷ []) (ks ++ new)
kept_still m is ks new i none still before = record {
  sound = λ x j. old x (In-append_cases ks new (known.Cross x) j);
  complete = λ order side x. by order side x (stands is i x.earlier (Message x.taken x.at) x.later x.inputs);
  alone = subst (λ (l : List HeldSide). Alone l) (sym (sides_more m is i ∙ (ap (λ (l : List HeldSide). held_sides (run m is).history.facts ++ l) still ∙ append-nil (held_sides (run m is).history.facts)))) before.alone;
}
  where
    old : (x : CrossEntered) → In (known.Cross x) ks ⊎ In (known.Cross x) new → IsKept m (is ++ i ∷ []) x
    old x (inl j) = kept_more m is i x (before.sound x j)
    old x (inr j) = absurd (none x j)

    by : (order : ℕ) (side : HeldSide) (x : IsCross m (is ++ i ∷ []) order side) → Stands is i x.earlier (Message x.taken x.at) x.later → Found (ks ++ new) order side
    by order side x (inl s) = found_more ks new order side (before.complete order side (cross_in m (is ++ i ∷ []) is order side x s.0 s.1))
    by order side x (inr s) =
        let a = answer_input m (run m is).history i in
        absurd (none_in (held_sides a.facts) side still (In-filter_map held_in a.facts (fact.Held side) side (at_last m is i x.earlier (Message x.taken x.at) (fact.Held side) s.0 s.1 x.was_held) refl))

alone_more : (fs : List Fact) (side : HeldSide) → is_order_id_used fs side.order.who side.order.id ≡ false → Alone (held_sides fs) → Alone (held_sides fs ++ side ∷ [])
alone_more fs side fresh before j k a b who id = by (In-append_cases (held_sides fs) (side ∷ []) j a) (In-append_cases (held_sides fs) (side ∷ []) k b)
  where
    taken : (x : HeldSide) → In x (held_sides fs) → x.order.who ≡ side.order.who → x.order.id ≡ side.order.id → ⊥
    taken x i who id = true≢false (sym (side_used fs x i) ∙ ((λ n. is_order_id_used fs (who n) (id n)) ∙ fresh))

    by : In j (held_sides fs) ⊎ In j (side ∷ []) → In k (held_sides fs) ⊎ In k (side ∷ []) → j ≡ k
    by (inl x) (inl y) = before j k x y who id
    by (inl x) (inr (inl e)) = absurd (taken j x (who ∙ ap (λ (y : HeldSide). y.order.who) (sym e)) (id ∙ ap (λ (y : HeldSide). y.order.id) (sym e)))
    by (inl x) (inr (inr y)) = absurd y
    by (inr (inl e)) (inl y) = absurd (taken k y (sym who ∙ ap (λ (y : HeldSide). y.order.who) (sym e)) (sym id ∙ ap (λ (y : HeldSide). y.order.id) (sym e)))
    by (inr (inl e)) (inr (inl f)) = sym e ∙ f
    by (inr (inl e)) (inr (inr y)) = absurd y
    by (inr (inr x)) y = absurd x

kept_crossed : (m : Market) (is : List Input) (ks : List Known) (taken : Taken) (t : ℕ) (d : CrossMessage) → taken.item.app ≡ NewOrderCross d → (c : Crosses (run m is).history d (answer_input m (run m is).history (Message taken t))) → AreKept m is ks
    → AreKept m (is ++ Message taken t ∷ []) (ks ++ known.Cross c.kept ∷ [])
kept_crossed m is ks taken t d app c before = record {
  sound = λ x j. old x (In-append_cases ks new (known.Cross x) j);
  complete = λ order side x. by order side x (stands is i x.earlier (Message x.taken x.at) x.later x.inputs);
  alone = subst (λ (l : List HeldSide). Alone l) (sym (sides_more m is i ∙ ap (λ (l : List HeldSide). held_sides h.facts ++ l) c.sides)) (alone_more h.facts c.side c.fresh before.alone);
}
  where
    i : Input
    i = Message taken t

    h : History
    h = (run m is).history

    a : Answer
    a = answer_input m h i

    new : List Known
    new = known.Cross c.kept ∷ []

    itself : IsCross m (is ++ i ∷ []) c.entry.number c.side
    itself = record {
      earlier = is;
      taken = taken;
      at = t;
      later = [];
      inputs = refl;
      message = d;
      crosses = app;
      named = c.named;
      entry = c.entry;
      number_is = refl;
      entered = Contains-from_In a.facts (fact.Entered c.entry) c.entered;
      was_held = Contains-from_In a.facts (fact.Held c.side) c.was_held;
    }

    kept_itself : IsKept m (is ++ i ∷ []) c.kept
    kept_itself = record { side = c.side; crossed = subst (λ (n : ℕ). IsCross m (is ++ i ∷ []) n c.side) (sym c.order) itself; who = sym c.who; id = sym c.second; cross = sym c.cross }

    same_cross : (x : CrossEntered) → known.Cross c.kept ≡ known.Cross x → c.kept ≡ x
    same_cross x e = cc

    old : (x : CrossEntered) → In (known.Cross x) ks ⊎ In (known.Cross x) new → IsKept m (is ++ i ∷ []) x
    old x (inl j) = kept_more m is i x (before.sound x j)
    old x (inr (inl e)) = subst (λ (y : CrossEntered). IsKept m (is ++ i ∷ []) y) (same_cross x e) kept_itself
    old x (inr (inr j)) = absurd j

    by : (order : ℕ) (side : HeldSide) (x : IsCross m (is ++ i ∷ []) order side) → Stands is i x.earlier (Message x.taken x.at) x.later → Found (ks ++ new) order side
    by order side x (inl s) = found_more ks new order side (before.complete order side (cross_in m (is ++ i ∷ []) is order side x s.0 s.1))
    by order side x (inr s) =
        let there = λ (f : Fact). at_last m is i x.earlier (Message x.taken x.at) f s.0 s.1 in
        let own : c.entry ≡ x.entry = only_in (entries a.facts) c.entry x.entry c.only (In-filter_map entry_in a.facts (fact.Entered x.entry) x.entry (there (fact.Entered x.entry) x.entered) refl) in
        let held : c.side ≡ side = only_in (held_sides a.facts) c.side side c.sides (In-filter_map held_in a.facts (fact.Held side) side (there (fact.Held side) x.was_held) refl) in
        (c.kept, In-append_right ks new (known.Cross c.kept) (inl refl), c.order ∙ (ap (λ (e : Entry). e.number) own ∙ x.number_is), c.who ∙ ap (λ (k : HeldSide). k.order.who) held, c.second ∙ ap (λ (k : HeldSide). k.order.id) held)

pub input_kept : (m : Market) (is : List Input) (ks : List Known) (i : Input) → AreKept m is ks → AreKept m (is ++ i ∷ []) (ks ++ known_at (taken_in i) (answer_input m (run m is).history i).replies)
input_kept m is ks (Tick t) before = kept_still m is ks [] (Tick t) (λ x i. i) (due_or_none_adds m (run m is).history (due (run m is).history.facts t)).1 before
input_kept m is ks (Message taken t) before = by (app_turns m (run m is).history (record { who = taken.from; number = taken.item.number; kind = type_of taken.item.app }) taken.item.app t)
  where
    h : History
    h = (run m is).history

    a : Answer
    a = answer_input m h (Message taken t)

    by : Turns h taken.item.app a → AreKept m (is ++ Message taken t ∷ []) (ks ++ flat_map (known_by taken.item.app) a.replies)
    by (inl p) = kept_still m is ks (flat_map (known_by taken.item.app) a.replies) (Message taken t) p.0 p.1 before
    by (inr p) =
        let learned : flat_map (known_by taken.item.app) a.replies ≡ known.Cross p.2.kept ∷ [] = ap (λ (x : App). flat_map (known_by x) a.replies) p.1 ∙ p.2.learned in
        subst (λ (l : List Known). AreKept m (is ++ Message taken t ∷ []) (ks ++ l)) (sym learned) (kept_crossed m is ks taken t p.0 p.1 p.2 before)

-- The cross of a trade.

-- the order that enters by an input: at a tick it has the name of the side that is due
abbrev pub EntersAs : History → Input → ℕ → List ℕ → Type 0
EntersAs h (Message taken t) who id = Unit {0}
EntersAs h (Tick t) who id = (k : HeldSide) × (due h.facts t ≡ Some k) × (who ≡ k.order.who) × (id ≡ k.order.id)

of_one : (newer older : SideFilled) (y : Known) (cross : List ℕ) → cross_of newer older y ≡ Some cross → (x : CrossEntered) × (y ≡ known.Cross x) × (joins x newer older ≡ true) × (x.cross ≡ cross)
of_one newer older (known.Quote q) cross e = absurd (none_is_some cross e)
of_one newer older (known.Cross x) cross e = at (joins x newer older) refl e
  where
    at : (b : Bool) → joins x newer older ≡ b → (if b then Some x.cross else None) ≡ Some cross → (z : CrossEntered) × (known.Cross x ≡ known.Cross z) × (joins z newer older ≡ true) × (z.cross ≡ cross)
    at true is e = (x, refl, is, same_some x.cross cross e)
    at false is e = absurd (none_is_some cross e)

abbrev Joined : SideFilled → SideFilled → List Known → List ℕ → Type 0
Joined newer older ks cross = (x : CrossEntered) × In (known.Cross x) ks × (joins x newer older ≡ true) × (x.cross ≡ cross)

found_cons : (newer older : SideFilled) (y : Known) (ys : List Known) (cross : List ℕ) (o : Option (List ℕ)) → (o ≡ Some cross → Joined newer older ys cross) → or o (cross_of newer older y) ≡ Some cross → Joined newer older (y ∷ ys) cross
found_cons newer older y ys cross (Some c) rest e = let k = rest e in (k.0, inr k.1, k.2, k.3)
found_cons newer older y ys cross None rest e = let k = of_one newer older y cross e in (k.0, inl k.1, k.2, k.3)

found_in : (newer older : SideFilled) (ks : List Known) (cross : List ℕ) → newest (cross_of newer older) ks ≡ Some cross → Joined newer older ks cross
found_in newer older [] cross e = absurd (none_is_some cross e)
found_in newer older (y ∷ ys) cross e = found_cons newer older y ys cross (newest (cross_of newer older) ys) (λ k. found_in newer older ys cross k) e

some_found : (newer older : SideFilled) (ks : List Known) (x : CrossEntered) → In (known.Cross x) ks → joins x newer older ≡ true → (cross : List ℕ) × (newest (cross_of newer older) ks ≡ Some cross)
some_found newer older [] x i e = absurd i
some_found newer older (y ∷ ys) x (inl same) e = by (newest (cross_of newer older) ys) refl
  where
    own : cross_of newer older y ≡ Some x.cross
    own = ap (cross_of newer older) same ∙ ap (λ (b : Bool). if b then Some x.cross else None) e

    by : (o : Option (List ℕ)) → newest (cross_of newer older) ys ≡ o → (cross : List ℕ) × (or (newest (cross_of newer older) ys) (cross_of newer older y) ≡ Some cross)
    by (Some c) is = (c, ap (λ (p : Option (List ℕ)). or p (cross_of newer older y)) is)
    by None is = (x.cross, ap (λ (p : Option (List ℕ)). or p (cross_of newer older y)) is ∙ own)
some_found newer older (y ∷ ys) x (inr i) e =
    let k = some_found newer older ys x i e in
    (k.0, ap (λ (p : Option (List ℕ)). or p (cross_of newer older y)) k.1)

pub cross_named : (m : Market) (is : List Input) (ks : List Known) (i : Input) → AreKept m is ks → (old : ℕ) (newer older : SideFilled) (named : Option (List ℕ)) → older.order ≡ old
    → EntersAs (run m is).history i newer.who newer.id → named ≡ cross_joined ks (is_none (taken_in i)) newer older → IsCrossNamed m is i old named
cross_named m is ks (Message taken t) kept old newer older named number enters joined = record {
  sound = λ cross e. absurd (none_is_some cross (sym joined ∙ e));
  complete = λ cross c. absurd (none_is_some c.side c.was_due);
}
cross_named m is ks (Tick t) kept old newer older named number enters joined = record { sound = λ cross e. came cross (sym joined ∙ e); complete = all }
  where
    h : History
    h = (run m is).history

    side : HeldSide
    side = enters.0

    came : (cross : List ℕ) → newest (cross_of newer older) ks ≡ Some cross → CameFrom m is (Tick t) old cross
    came cross e =
        let x = found_in newer older ks cross e in
        let c = x.0 in
        let k = kept.sound c x.1 in
        let own = and_right (c.order == older.order) (c.who == newer.who && bytes_eq c.second newer.id) x.2 in
        let who : k.side.order.who ≡ side.order.who = k.who ∙ (eqb-true c.who newer.who (and_left (c.who == newer.who) (bytes_eq c.second newer.id) own) ∙ enters.2) in
        let id : k.side.order.id ≡ side.order.id = k.id ∙ ((bytes_eq-Decides c.second newer.id).0 (and_right (c.who == newer.who) (bytes_eq c.second newer.id) own) ∙ enters.3) in
        let same : k.side ≡ side = kept.alone k.side side (cross_is_held m is c.order k.side k.crossed) (due_is_held h.facts t side enters.1) who id in
        let order : c.order ≡ old = eqb-true c.order older.order (and_left (c.order == older.order) (c.who == newer.who && bytes_eq c.second newer.id) x.2) ∙ number in
        record {
          side = side;
          was_due = enters.1;
          crossed = subst (λ (y : HeldSide). IsCross m is old y) same (subst (λ (n : ℕ). IsCross m is n k.side) order k.crossed);
          named = ap (λ (y : HeldSide). y.cross) (sym same) ∙ (k.cross ∙ x.3);
        }

    all : (cross : List ℕ) → CameFrom m is (Tick t) old cross → named ≡ Some cross
    all cross c =
        let due_one : c.side ≡ side = same_some c.side side (sym c.was_due ∙ enters.1) in
        let f = kept.complete old c.side c.crossed in
        let order : (f.0.order == older.order) ≡ true = eq-eqb f.0.order older.order (f.2 ∙ sym number) in
        let who : (f.0.who == newer.who) ≡ true = eq-eqb f.0.who newer.who (f.3 ∙ (ap (λ (y : HeldSide). y.order.who) due_one ∙ sym enters.2)) in
        let id : bytes_eq f.0.second newer.id ≡ true = (bytes_eq-Decides f.0.second newer.id).1 (f.4 ∙ (ap (λ (y : HeldSide). y.order.id) due_one ∙ sym enters.3)) in
        let some = some_found newer older ks f.0 f.1 (both_true (f.0.order == older.order) (f.0.who == newer.who && bytes_eq f.0.second newer.id) order (both_true (f.0.who == newer.who) (bytes_eq f.0.second newer.id) who id)) in
        let k = came some.0 some.1 in
        let same : some.0 ≡ cross = sym k.named ∙ (ap (λ (y : HeldSide). y.cross) (same_some k.side c.side (sym k.was_due ∙ c.was_due)) ∙ c.named) in
        joined ∙ (some.1 ∙ ap (λ (y : List ℕ). Some y) same)
