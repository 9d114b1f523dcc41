-- A participant's held sides have identifiers of their own, so that the one that enters at a tick is found by its
-- identifier.
use Rattle.std.proofs.Common.{◌≡◌, refl, sym, ap, subst, ◌∙◌, ◌⊎◌, inl, inr, ℕ, ◌==◌, Bool, true, false, ◌&&◌, ◌||◌, nat_lt, nat_le, not, if◌then◌else◌, List, [], ◌∷◌, ◌++◌, filter, find, Option, Some, None, append-nil, append_assoc, eq-eqb, eqb-true}
use Rattle.std.specs.Prelude.{bytes_eq}
use Rattle.std.specs.List.{list_any}
use Rattle.std.proofs.lemmas.Bool.{true≢false, false_from_ne_true}
use Rattle.std.proofs.lemmas.List.Elements.{filter_map-append}
use Rattle.std.proofs.lemmas.Slice.Eq.{bytes_eq-Decides}
use Rattle.venue_rules.specs.declared.facts.Entry.{Entry}
use Rattle.venue_rules.specs.declared.facts.Fact.{Fact}
use Rattle.venue_rules.specs.declared.facts.Fact.TheVariants as fact
use Rattle.venue_rules.specs.declared.facts.HeldSide.{HeldSide}
use Rattle.venue_rules.specs.declared.trail.TrailRow.{TrailRow}
use Rattle.venue_rules.specs.Answer.{Answer, first_of}
use Rattle.venue_rules.specs.Book.{fills}
use Rattle.venue_rules.specs.Crosses.{due_refusals}
use Rattle.venue_rules.specs.Delay.{due, earlier, earliest, held, releases}
use Rattle.venue_rules.specs.Entering.{entering}
use Rattle.venue_rules.specs.Facts.{History, entries, held_in as held_in_fact, held_sides, is_order_id_used, uses_order_id}
use Rattle.venue_rules.specs.Market.{Market}
use Rattle.venue_rules.specs.Orders.{accepted}
use Rattle.venue_rules.specs.Run.{Input, after, answer_due_of, answer_input, run_from}
use Rattle.venue_core.specs.Replay.{AreEmitted}
use Rattle.venue_rules.proofs.Members.{In, In-append_cases, In-append_left, picked_from}
use Rattle.trade_blotter.proofs.Lists.{In-filtered, none_is_some, same_some}
use Rattle.trade_reconstruction.proofs.Members.{found_first, found_longer, found_past}
use Rattle.trade_reconstruction.proofs.Replies.{HoldsAnew, entered_once, input-Says}

abbrev pub has_name : ℕ → List ℕ → HeldSide → Bool
has_name who id k = k.order.who == who && bytes_eq k.order.id id

abbrev pub same_name : HeldSide → HeldSide → Bool
same_name k x = has_name k.order.who k.order.id x

-- each held side is the first with its identifier
abbrev pub HoldsApart : List HeldSide → Type 0
HoldsApart ks = (k : HeldSide) → In k ks → find (same_name k) ks ≡ Some k

pub and_parts : (a b : Bool) → (a && b) ≡ true → (a ≡ true) × (b ≡ true)
and_parts true b e = (refl, e)
and_parts false b e = absurd (true≢false (sym e))

pub and_true : (a b : Bool) → a ≡ true → b ≡ true → (a && b) ≡ true
and_true true b e f = f
and_true false b e f = e

pub any_In : (p : Fact → Bool) (fs : List Fact) (f : Fact) → In f fs → p f ≡ true → list_any p fs ≡ true
any_In p [] f i t = absurd i
any_In p (g ∷ gs) f (inl e) t = ap (λ (b : Bool). b || list_any p gs) (ap p e ∙ t)
any_In p (g ∷ gs) f (inr i) t = elim (p g) as (λ b. (b || list_any p gs) ≡ true) [ true ↦ refl | false ↦ any_In p gs f i t ]

pub held_fact : (f : Fact) (k : HeldSide) → held_in_fact f ≡ Some k → f ≡ fact.Held k
held_fact (fact.Held x) k e = ap (λ (y : HeldSide). fact.Held y) (same_some x k e)
held_fact (fact.Entered x) k e = absurd (none_is_some k e)
held_fact (fact.Traded x) k e = absurd (none_is_some k e)
held_fact (fact.Removed x) k e = absurd (none_is_some k e)
held_fact (fact.Unheld x) k e = absurd (none_is_some k e)
held_fact (fact.Asked x) k e = absurd (none_is_some k e)
held_fact (fact.Quoted x) k e = absurd (none_is_some k e)
held_fact (fact.Withdrawn x) k e = absurd (none_is_some k e)
held_fact (fact.Closed x) k e = absurd (none_is_some k e)

-- an identifier that was not used is no held side's
pub unused_apart : (facts : List Fact) (who : ℕ) (id : List ℕ) → is_order_id_used facts who id ≡ false → (x : HeldSide) → In x (held_sides facts) → has_name who id x ≡ false
unused_apart facts who id unused x i = false_from_ne_true (has_name who id x) (λ t.
    let there = picked_from held_in_fact facts x i in
    let parts = and_parts (x.order.who == who) (bytes_eq x.order.id id) t in
    let named : uses_order_id who id (fact.Held x) ≡ true =
    and_true (who == x.order.who) (bytes_eq id x.order.id) (eq-eqb who x.order.who (sym (eqb-true x.order.who who parts.0))) ((bytes_eq-Decides id x.order.id).1 (sym ((bytes_eq-Decides x.order.id id).0 parts.1))) in
    true≢false (sym (any_In (uses_order_id who id) facts there.0 there.1 (ap (uses_order_id who id) (held_fact there.0 x there.2) ∙ named)) ∙ unused))

own_name : (k : HeldSide) → same_name k k ≡ true
own_name k = and_true (k.order.who == k.order.who) (bytes_eq k.order.id k.order.id) (eq-eqb k.order.who k.order.who refl) ((bytes_eq-Decides k.order.id k.order.id).1 refl)

apart_after : (facts : List Fact) (new : List HeldSide) → HoldsApart (held_sides facts) → HoldsAnew facts new → HoldsApart (held_sides facts ++ new)
apart_after facts new apart (inl none) = subst HoldsApart (sym (append-nil (held_sides facts)) ∙ ap (λ ks. held_sides facts ++ ks) (sym none)) apart
apart_after facts new apart (inr one) = subst (λ ks. HoldsApart (held_sides facts ++ ks)) (sym one.1) (λ x i. by x (In-append_cases (held_sides facts) (one.0 ∷ []) x i))
  where
    by : (x : HeldSide) → In x (held_sides facts) ⊎ In x (one.0 ∷ []) → find (same_name x) (held_sides facts ++ one.0 ∷ []) ≡ Some x
    by x (inl old) = found_longer (same_name x) (held_sides facts) (one.0 ∷ []) x (apart x old)
    by x (inr (inl same)) =
        subst (λ y. find (same_name y) (held_sides facts ++ one.0 ∷ []) ≡ Some y) same
        (found_past (same_name one.0) (held_sides facts) (one.0 ∷ []) (unused_apart facts one.0.order.who one.0.order.id one.2) ∙ found_first (same_name one.0) one.0 [] (own_name one.0))
    by x (inr (inr nowhere)) = absurd nowhere

pub day_apart : (m : Market) (h : History) (rs : List TrailRow) (is : List Input) → AreEmitted rs is → HoldsApart (held_sides h.facts) → HoldsApart (held_sides (run_from m h is).history.facts)
day_apart m h [] [] emitted apart = apart
day_apart m h [] (i ∷ is) emitted apart = absurd emitted
day_apart m h (r ∷ rs) [] emitted apart = absurd emitted
day_apart m h (r ∷ rs) (i ∷ is) emitted apart =
    let a = answer_input m h i in
    day_apart m (after h a) rs is emitted.1
    (subst HoldsApart (sym (filter_map-append held_in_fact h.facts a.facts)) (apart_after h.facts (held_sides a.facts) apart (input-Says m h [] r i emitted.0).1.1.1.1.0))

-- known held sides stay known
pub run_grows : (m : Market) (h : History) (is js : List Input) → (more : List Fact) × ((run_from m h (is ++ js)).history.facts ≡ (run_from m h is).history.facts ++ more)
run_grows m h [] [] = ([], sym (append-nil h.facts))
run_grows m h [] (j ∷ js) = let a = answer_input m h j in let k = run_grows m (after h a) [] js in (a.facts ++ k.0, k.1 ∙ append_assoc h.facts a.facts k.0)
run_grows m h (i ∷ is) js = run_grows m (after h (answer_input m h i)) is js

pub holds_stay : (m : Market) (h : History) (is js : List Input) (k : HeldSide) → In k (held_sides (run_from m h is).history.facts) → In k (held_sides (run_from m h (is ++ js)).history.facts)
holds_stay m h is js k i =
    let more = run_grows m h is js in
    let before = (run_from m h is).history.facts in
    subst (λ fs. In k (held_sides fs)) (sym more.1) (subst (In k) (sym (filter_map-append held_in_fact before more.0)) (In-append_left (held_sides before) (held_sides more.0) k i))

-- What enters at a tick was held.

earlier_one : (h x : HeldSide) (hs : List HeldSide) (o : Option HeldSide) → ((y : HeldSide) → o ≡ Some y → In y hs) → earlier h o ≡ Some x → In x (h ∷ hs)
earlier_one h x hs None rest e = inl (same_some h x e)
earlier_one h x hs (Some k) rest e =
    (elim (nat_lt k.due h.due) as (λ b. (if b then Some k else Some h) ≡ Some x → In x (h ∷ hs)) [ true ↦ λ q. inr (rest x (ap Some (same_some k x q))) | false ↦ λ q. inl (same_some h x q) ]) e

earliest_In : (hs : List HeldSide) (x : HeldSide) → earliest hs ≡ Some x → In x hs
earliest_In [] x e = absurd (none_is_some x e)
earliest_In (h ∷ hs) x e = earlier_one h x hs (earliest hs) (earliest_In hs) e

pub due_in_held : (facts : List Fact) (t : ℕ) (k : HeldSide) → due facts t ≡ Some k → In k (held facts)
due_in_held facts t k e = In-filtered (λ (h : HeldSide). nat_le h.due t) (held facts) k (earliest_In (filter (λ (h : HeldSide). nat_le h.due t) (held facts)) k e)

due_held : (facts : List Fact) (t : ℕ) (k : HeldSide) → due facts t ≡ Some k → In k (held_sides facts)
due_held facts t k e = In-filtered (λ (h : HeldSide). not (list_any (releases h) facts)) (held_sides facts) k (In-filtered (λ (h : HeldSide). nat_le h.due t) (held facts) k (earliest_In (filter (λ (h : HeldSide). nat_le h.due t) (held facts)) k e))

-- the order of a held side, at its due moment
pub record IsOfHeld (facts : List Fact) (e : Entry) : Type 0 where
  pub side : HeldSide
  pub held : In side (held_sides facts)
  pub order : e.order ≡ side.order
  pub moment : e.moment ≡ side.due

of_entering : (facts : List Fact) (k : HeldSide) (e : Entry) → In k (held_sides facts) → In e (entering facts k.order 0 k.due ∷ []) → IsOfHeld facts e
of_entering facts k e i (inl same) = record { side = k; held = i; order = ap (λ (x : Entry). x.order) (sym same); moment = ap (λ (x : Entry). x.moment) (sym same) }
of_entering facts k e i (inr nowhere) = absurd nowhere

-- no refusal of the list has an entry
abbrev NoneEnters : List (Bool × Answer) → Type 0
NoneEnters [] = Unit {0}
NoneEnters (r ∷ rs) = (entries r.1.facts ≡ []) × NoneEnters rs

enters_last : (rs : List (Bool × Answer)) (x : Answer) (e : Entry) → NoneEnters rs → In e (entries (first_of rs x).facts) → In e (entries x.facts)
enters_last [] x e n i = i
enters_last (r ∷ rs) x e n i =
    (elim r.0 as (λ b. (let y : Answer = elim b [ true ↦ r.1 | false ↦ first_of rs x ] in In e (entries y.facts)) → In e (entries x.facts)) [ true ↦ λ k. absurd (subst (In e) n.0 k) | false ↦ λ k. enters_last rs x e n.1 k ]) i

due_entry : (m : Market) (h : History) (o : Option HeldSide) (e : Entry) → ((k : HeldSide) → o ≡ Some k → In k (held_sides h.facts)) → In e (entries (answer_due_of m h o).facts) → IsOfHeld h.facts e
due_entry m h None e held i = absurd i
due_entry m h (Some k) e held i =
    of_entering h.facts k e (held k refl)
    (subst (In e) (entered_once (entering h.facts k.order 0 k.due) (fills h.facts k.order)) (enters_last (due_refusals m h k) (accepted m h k.order k.due) e (refl, (refl, tt)) i))

pub tick_entry : (m : Market) (h : History) (t : ℕ) (e : Entry) → In e (entries (answer_due_of m h (due h.facts t)).facts) → IsOfHeld h.facts e
tick_entry m h t e i = due_entry m h (due h.facts t) e (due_held h.facts t) i
