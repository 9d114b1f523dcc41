-- No row of an order is left out.
use Rattle.std.proofs.Common.{◌≡◌, refl, sym, ap, subst, ◌∙◌, ◌⊎◌, inl, inr, ℕ, ◌+◌, ◌<◌, ◌==◌, Bool, true, false, ◌&&◌, ◌||◌, if◌then◌else◌, List, [], ◌∷◌, ◌++◌, length, Option, Some, None, eqb-true, eq-eqb, arith}
use Rattle.std.specs.Prelude.{bytes_eq}
use Rattle.std.specs.List.{flat_map, list_any}
use Rattle.std.proofs.lemmas.Bool.{true≢false}
use Rattle.std.proofs.lemmas.List.{length-append}
use Rattle.std.proofs.lemmas.List.Elements.{filter_map-append}
use Rattle.std.proofs.lemmas.Slice.Eq.{bytes_eq-Decides}
use Rattle.venue_rules.specs.declared.facts.Entry.{Entry}
use Rattle.venue_rules.specs.declared.facts.Fact.{Fact}
use Rattle.venue_rules.specs.declared.facts.Fact.TheVariants as fact
use Rattle.venue_rules.specs.declared.facts.Removal.{Removal}
use Rattle.venue_rules.specs.declared.facts.TradeSource.{TradeSource}
use Rattle.venue_rules.specs.declared.facts.TradeSource.TheVariants.{Book as InBook, Room as InRoom}
use Rattle.venue_rules.specs.declared.replies.OrderStatus.{OrderStatus}
use Rattle.venue_rules.specs.declared.replies.Reply.{Reply}
use Rattle.venue_rules.specs.Answer.{Answer}
use Rattle.venue_rules.specs.Book.{takes_part}
use Rattle.venue_rules.specs.Facts.{History, entries, entry_in, next_order, no_history}
use Rattle.venue_rules.specs.Market.{Market}
use Rattle.venue_rules.specs.Run.{Input, after, answer_input, run, run_from}
use Rattle.trail_answers.specs.declared.life.Name.{Name}
use Rattle.trail_answers.specs.declared.scope.Scope.{Scope}
use Rattle.trail_answers.specs.Emitted.{seen_from, seen_on}
use Rattle.trail_answers.specs.Laws.{OrdersAreWhole, is_of, is_of_life, seeks}
use Rattle.trail_answers.specs.Life.{Life, after_replies, after_reply, at_input, is_about, is_its_number, is_named, is_numbered, is_standing, names_in, numbers_in, with_reply}
use Rattle.trail_answers.specs.Sought.{Seen, seen_after, unseen}
use Rattle.venue_rules.proofs.Members.{In, In-append_cases, In-filter_map, picked_from}
use Rattle.trade_blotter.proofs.Lists.{same_some}
use Rattle.trail_answers.proofs.Members.{any_cases, any_in, any_left, any_right, from_flat, in_any, in_flat, or_cases, or_left, or_right}
use Rattle.trail_answers.proofs.Said.{Said, Enters, Replaces, Fills, Leaves, IsUnfilled, IsKept, IsNamed, Silent, about_is, about_said, names_are, names_said, numbers_are, numbers_said, replaces_said, reports_said, said}
use Rattle.trail_answers.proofs.Stating.{Event, HasEntered, HasTraded, IsCancelled, IsNext, IsReplaced, IsStated, happened, input_stated, removal_in, removals, stated, stated_said, traded_at}

-- A life grows: what is known of an order stays known.

abbrev is_name_of : ℕ → List ℕ → Name → Bool
is_name_of who id n = (n.who == who) && bytes_eq n.id id

record Grows (l l' : Life) : Type 0 where
  pub numbers : (k : ℕ) → is_numbered l k ≡ true → is_numbered l' k ≡ true
  pub names : (who : ℕ) (id : List ℕ) → is_named l who id ≡ true → is_named l' who id ≡ true
  pub here : l.here ≡ true → l'.here ≡ true

same_life : (l : Life) → Grows l l
same_life l = record { numbers = λ k e. e; names = λ who id e. e; here = λ e. e }

then_life : (a b c : Life) → Grows a b → Grows b c → Grows a c
then_life a b c x y = record { numbers = λ k e. y.numbers k (x.numbers k e); names = λ who id e. y.names who id (x.names who id e); here = λ e. y.here (x.here e) }

pick : (P : Life → Type 0) (b : Bool) (x y : Life) → P x → P y → P (if b then x else y)
pick P true x y k l = k
pick P false x y k l = l

grows_reply : (l : Life) (r : Reply) → Grows l (after_reply l r)
grows_reply l r = pick (Grows l) (is_about l r) (with_reply l r) l
    (record { numbers = λ k e. any_left (λ (n : ℕ). n == k) l.numbers (numbers_in r.what) e; names = λ who id e. any_left (is_name_of who id) l.names (names_in r.to r.what) e; here = λ e. refl }) (same_life l)

grows_replies : (l : Life) (rs : List Reply) → Grows l (after_replies l rs)
grows_replies l [] = same_life l
grows_replies l (r ∷ rs) = then_life l (after_reply l r) (after_replies (after_reply l r) rs) (grows_reply l r) (grows_replies (after_reply l r) rs)

its_grows : (l l' : Life) → Grows l l' → (n : Option ℕ) → is_its_number l n ≡ true → is_its_number l' n ≡ true
its_grows l l' g None e = e
its_grows l l' g (Some k) e = g.numbers k e

standing_grows : (l l' : Life) → Grows l l' → (s : Option OrderStatus) → is_standing l s ≡ true → is_standing l' s ≡ true
standing_grows l l' g None e = e
standing_grows l l' g (Some s) e = g.numbers s.order e

reports_grow : (l l' : Life) → Grows l l' → (s : Said) → reports_said l s ≡ true → reports_said l' s ≡ true
reports_grow l l' g (Enters n id) e = its_grows l l' g n e
reports_grow l l' g (Replaces n id original) e = its_grows l l' g n e
reports_grow l l' g (Fills n) e = its_grows l l' g n e
reports_grow l l' g (Leaves n) e = its_grows l l' g n e
reports_grow l l' g (IsUnfilled n) e = its_grows l l' g n e
reports_grow l l' g (IsKept s) e = standing_grows l l' g s e
reports_grow l l' g (IsNamed n) e = its_grows l l' g n e
reports_grow l l' g Silent e = e

replaces_grow : (l l' : Life) → Grows l l' → (who : ℕ) (s : Said) → replaces_said l who s ≡ true → replaces_said l' who s ≡ true
replaces_grow l l' g who (Enters n id) e = e
replaces_grow l l' g who (Replaces n id original) e = g.names who original e
replaces_grow l l' g who (Fills n) e = e
replaces_grow l l' g who (Leaves n) e = e
replaces_grow l l' g who (IsUnfilled n) e = e
replaces_grow l l' g who (IsKept s) e = e
replaces_grow l l' g who (IsNamed n) e = e
replaces_grow l l' g who Silent e = e

about_grows : (l l' : Life) → Grows l l' → (who : ℕ) (s : Said) → about_said l who s ≡ true → about_said l' who s ≡ true
about_grows l l' g who s e = by (or_cases (reports_said l s) (replaces_said l who s) e)
  where
    by : (reports_said l s ≡ true) ⊎ (replaces_said l who s ≡ true) → (reports_said l' s || replaces_said l' who s) ≡ true
    by (inl a) = or_left (reports_said l' s) (replaces_said l' who s) (reports_grow l l' g s a)
    by (inr b) = or_right (reports_said l' s) (replaces_said l' who s) (replaces_grow l l' g who s b)

-- a reply is noted: its row is one of the order's, and its number and identifier are known
record IsNoted (l : Life) (x : Reply) : Type 0 where
  pub here : l.here ≡ true
  pub numbers : (k : ℕ) → list_any (λ (n : ℕ). n == k) (numbers_said (said x)) ≡ true → is_numbered l k ≡ true
  pub names : (who : ℕ) (id : List ℕ) → list_any (is_name_of who id) (names_said x.to (said x)) ≡ true → is_named l who id ≡ true

noted_grows : (l l' : Life) (x : Reply) → Grows l l' → IsNoted l x → IsNoted l' x
noted_grows l l' x g n = record { here = g.here n.here; numbers = λ k e. g.numbers k (n.numbers k e); names = λ who id e. g.names who id (n.names who id e) }

noted_at : (l : Life) (x : Reply) → is_about l x ≡ true → IsNoted (after_reply l x) x
noted_at l x e = subst (λ (y : Life). IsNoted y x) (sym (ap (λ (b : Bool). if b then with_reply l x else l) e)) (record {
  here = refl;
  numbers = λ k i. any_right (λ (n : ℕ). n == k) l.numbers (numbers_in x.what) (ap (list_any (λ (n : ℕ). n == k)) (numbers_are x.what) ∙ i);
  names = λ who id i. any_right (is_name_of who id) l.names (names_in x.to x.what) (ap (list_any (is_name_of who id)) (names_are x.to x.what) ∙ i);
})

about_noted : (l : Life) (rs : List Reply) (x : Reply) → In x rs → about_said l x.to (said x) ≡ true → IsNoted (after_replies l rs) x
about_noted l [] x i a = absurd i
about_noted l (r ∷ rs) x (inl same) a =
    subst (λ (y : Reply). IsNoted (after_replies (after_reply l y) rs) x) (sym same) (noted_grows (after_reply l x) (after_replies (after_reply l x) rs) x (grows_replies (after_reply l x) rs) (noted_at l x (about_is l x ∙ a)))
about_noted l (r ∷ rs) x (inr i) a = about_noted (after_reply l r) rs x i (about_grows l (after_reply l r) (grows_reply l r) x.to (said x) a)

-- a number that is known was known, or comes from a reply that is noted
record IsGained (l : Life) (rs : List Reply) (k : ℕ) : Type 0 where
  pub reply : Reply
  pub there : In reply rs
  pub number : list_any (λ (n : ℕ). n == k) (numbers_said (said reply)) ≡ true
  pub noted : IsNoted l reply

gained : (l : Life) (rs : List Reply) (k : ℕ) → is_numbered (after_replies l rs) k ≡ true → (is_numbered l k ≡ true) ⊎ IsGained (after_replies l rs) rs k
gained l [] k e = inl e
gained l (r ∷ rs) k e = by (gained (after_reply l r) rs k e)
  where
    fresh : is_about l r ≡ true → (is_numbered l k ≡ true) ⊎ (list_any (λ (n : ℕ). n == k) (numbers_in r.what) ≡ true) → (is_numbered l k ≡ true) ⊎ IsGained (after_replies (after_reply l r) rs) (r ∷ rs) k
    fresh is (inl a) = inl a
    fresh is (inr b) = inr (record { reply = r; there = inl refl; number = ap (list_any (λ (n : ℕ). n == k)) (sym (numbers_are r.what)) ∙ b; noted = noted_grows (after_reply l r) (after_replies (after_reply l r) rs) r (grows_replies (after_reply l r) rs) (noted_at l r is) })

    step : (b : Bool) → is_about l r ≡ b → is_numbered (if b then with_reply l r else l) k ≡ true → (is_numbered l k ≡ true) ⊎ IsGained (after_replies (after_reply l r) rs) (r ∷ rs) k
    step false is a = inl a
    step true is a = fresh is (any_cases (λ (n : ℕ). n == k) l.numbers (numbers_in r.what) a)

    by : (is_numbered (after_reply l r) k ≡ true) ⊎ IsGained (after_replies (after_reply l r) rs) rs k → (is_numbered l k ≡ true) ⊎ IsGained (after_replies (after_reply l r) rs) (r ∷ rs) k
    by (inl a) = step (is_about l r) refl a
    by (inr g) = inr (record { reply = g.reply; there = inr g.there; number = g.number; noted = g.noted })

-- What is stated of an order with a number.

abbrev event_number : Event → ℕ
event_number (HasEntered n who id) = n
event_number (HasTraded n) = n

abbrev number_or : Option Event → ℕ
number_or None = 0
number_or (Some e) = event_number e

abbrev who_or : Option Event → ℕ
who_or (Some (HasEntered n who id)) = who
who_or _ = 0

abbrev id_or : Option Event → List ℕ
id_or (Some (HasEntered n who id)) = id
id_or _ = []

numbered_at : (l : Life) (a b : ℕ) → a ≡ b → is_numbered l b ≡ true → is_numbered l a ≡ true
numbered_at l a b e i = subst (λ n. is_numbered l n ≡ true) (sym e) i

stated_about : (l : Life) (who : ℕ) (s : Said) (event : Event) → stated_said who s ≡ Some event → is_numbered l (event_number event) ≡ true → reports_said l s ≡ true
stated_about l who (Enters None id) event e i = absurd (cc)
stated_about l who (Enters (Some n) id) event e i = numbered_at l n (event_number event) (ap number_or e) i
stated_about l who (Replaces None id original) event e i = absurd (cc)
stated_about l who (Replaces (Some n) id original) event e i = numbered_at l n (event_number event) (ap number_or e) i
stated_about l who (Fills None) event e i = absurd (cc)
stated_about l who (Fills (Some n)) event e i = numbered_at l n (event_number event) (ap number_or e) i
stated_about l who (Leaves n) event e i = absurd (cc)
stated_about l who (IsUnfilled n) event e i = absurd (cc)
stated_about l who (IsKept s) event e i = absurd (cc)
stated_about l who (IsNamed n) event e i = absurd (cc)
stated_about l who Silent event e i = absurd (cc)

is_itself : (who : ℕ) (id : List ℕ) (who' : ℕ) (id' : List ℕ) → who ≡ who' → id ≡ id' → list_any (is_name_of who' id') (record { who = who; id = id } ∷ []) ≡ true
is_itself who id who' id' a b = or_left (who == who' && bytes_eq id id') false ((λ k. eq-eqb who who' a k && (bytes_eq-Decides id id').1 b k))

stated_names : (who : ℕ) (s : Said) (n who' : ℕ) (id' : List ℕ) → stated_said who s ≡ Some (HasEntered n who' id') → list_any (is_name_of who' id') (names_said who s) ≡ true
stated_names who (Enters None id) n who' id' e = absurd (cc)
stated_names who (Enters (Some k) id) n who' id' e = is_itself who id who' id' (ap who_or e) (ap id_or e)
stated_names who (Replaces None id original) n who' id' e = absurd (cc)
stated_names who (Replaces (Some k) id original) n who' id' e = is_itself who id who' id' (ap who_or e) (ap id_or e)
stated_names who (Fills None) n who' id' e = absurd (cc)
stated_names who (Fills (Some k)) n who' id' e = absurd (cc)
stated_names who (Leaves k) n who' id' e = absurd (cc)
stated_names who (IsUnfilled k) n who' id' e = absurd (cc)
stated_names who (IsKept s) n who' id' e = absurd (cc)
stated_names who (IsNamed k) n who' id' e = absurd (cc)
stated_names who Silent n who' id' e = absurd (cc)

-- a number that a reply adds is that of an order that it states of
number_stated : (who : ℕ) (s : Said) (k : ℕ) → list_any (λ (n : ℕ). n == k) (numbers_said s) ≡ true → (id : List ℕ) × (stated_said who s ≡ Some (HasEntered k who id))
number_stated who (Enters n id) k e = absurd (true≢false (sym e))
number_stated who (Replaces None id original) k e = absurd (true≢false (sym e))
number_stated who (Replaces (Some n) id original) k e = (id, ap (λ x. Some (HasEntered x who id)) (eqb-true n k (one (n == k) e)))
  where
    one : (b : Bool) → (b || false) ≡ true → b ≡ true
    one true e = refl
    one false e = e
number_stated who (Fills n) k e = absurd (true≢false (sym e))
number_stated who (Leaves n) k e = absurd (true≢false (sym e))
number_stated who (IsUnfilled n) k e = absurd (true≢false (sym e))
number_stated who (IsKept s) k e = absurd (true≢false (sym e))
number_stated who (IsNamed n) k e = absurd (true≢false (sym e))
number_stated who Silent k e = absurd (true≢false (sym e))

-- the entry of an event
record IsEntry (facts : List Fact) (n who : ℕ) (id : List ℕ) : Type 0 where
  pub entry : Entry
  pub there : In entry (entries facts)
  pub number : entry.number ≡ n
  pub owner : entry.order.who ≡ who
  pub named : entry.order.id ≡ id

entered_in : (facts : List Fact) (f : Fact) (n who : ℕ) (id : List ℕ) → In f facts → In (HasEntered n who id) (happened f) → IsEntry facts n who id
entered_in facts (fact.Entered e) n who id i (inl same) =
    record { entry = e; there = In-filter_map entry_in facts (fact.Entered e) e i refl; number = ap event_number same; owner = ap (λ (x : Event). who_or (Some x)) same; named = ap (λ (x : Event). id_or (Some x)) same }
entered_in facts (fact.Entered e) n who id i (inr k) = absurd k
entered_in facts (fact.Traded t) n who id i k = absurd (never t.place k)
  where
    never : (p : TradeSource) → In (HasEntered n who id) (traded_at p) → ⊥
    never (InBook resting entering) (inl e) = cc
    never (InBook resting entering) (inr (inl e)) = cc
    never (InBook resting entering) (inr (inr k)) = k
    never (InRoom room quote) k = k
entered_in facts (fact.Removed r) n who id i k = absurd k
entered_in facts (fact.Held x) n who id i k = absurd k
entered_in facts (fact.Unheld x) n who id i k = absurd k
entered_in facts (fact.Asked x) n who id i k = absurd k
entered_in facts (fact.Quoted x) n who id i k = absurd k
entered_in facts (fact.Withdrawn x) n who id i k = absurd k
entered_in facts (fact.Closed x) n who id i k = absurd k

-- what a reply states happened, and what happened is stated
stated_happened : (h : History) (a : Answer) → IsStated h a → (x : Reply) (event : Event) → In x a.replies → stated x ≡ Some event → In event (flat_map happened a.facts)
stated_happened h a k x event i e = subst (In event) k.events (In-filter_map stated a.replies x event i e)

happened_stated : (h : History) (a : Answer) → IsStated h a → (f : Fact) (event : Event) → In f a.facts → In event (happened f) → (x : Reply) × In x a.replies × (stated x ≡ Some event)
happened_stated h a k f event i e = picked_from stated a.replies event (subst (In event) (sym k.events) (in_flat happened a.facts f event i e))

stated_entry : (h : History) (a : Answer) → IsStated h a → (x : Reply) (n who : ℕ) (id : List ℕ) → In x a.replies → stated x ≡ Some (HasEntered n who id) → IsEntry a.facts n who id
stated_entry h a k x n who id i e = let f = from_flat happened a.facts (HasEntered n who id) (stated_happened h a k x (HasEntered n who id) i e) in entered_in a.facts f.0 n who id f.1 f.2

entry_fact : (facts : List Fact) (e : Entry) → In e (entries facts) → In (fact.Entered e) facts
entry_fact facts e i = let k = picked_from entry_in facts e i in subst (λ (f : Fact). In f facts) (of k.0 k.2) k.1
  where
    of : (f : Fact) → entry_in f ≡ Some e → f ≡ fact.Entered e
    of (fact.Entered x) is = ap (λ (y : Entry). fact.Entered y) (same_some x e is)
    of (fact.Traded x) is = absurd (cc)
    of (fact.Removed x) is = absurd (cc)
    of (fact.Held x) is = absurd (cc)
    of (fact.Unheld x) is = absurd (cc)
    of (fact.Asked x) is = absurd (cc)
    of (fact.Quoted x) is = absurd (cc)
    of (fact.Withdrawn x) is = absurd (cc)
    of (fact.Closed x) is = absurd (cc)

-- an entry of an answer is its only one, and has the next number
only : (h : History) (es : List Entry) → IsNext h es → (e : Entry) → In e es → (e.number ≡ next_order h.facts) × ((x : Entry) → In x es → x ≡ e)
only h es (inl none) e i = absurd (subst (In e) none i)
only h es (inr n) e i = (ap (λ (x : Entry). x.number) (sym (alone e n.0 (subst (In e) n.1 i))) ∙ n.2, (λ x k. sym (alone x n.0 (subst (In x) n.1 k)) ∙ alone e n.0 (subst (In e) n.1 i)))
  where
    alone : (x y : Entry) → In x (y ∷ []) → y ≡ x
    alone x y (inl same) = same
    alone x y (inr k) = absurd k

-- Of each order: its number is below the next, and where it is one of those sought its identifier is known.
abbrev Kept : Life → History → Type 0
Kept l h = (e : Entry) → In e (entries h.facts) → (e.number < next_order h.facts) × (is_numbered l e.number ≡ true → is_named l e.order.who e.order.id ≡ true)

entries_after : (h : History) (a : Answer) → entries (after h a).facts ≡ entries h.facts ++ entries a.facts
entries_after h a = filter_map-append entry_in h.facts a.facts

next_after : (h : History) (a : Answer) → next_order (after h a).facts ≡ length (entries h.facts) + length (entries a.facts) + 1
next_after h a = ap (λ (n : ℕ). n + 1) (ap length (entries_after h a) ∙ length-append (entries h.facts) (entries a.facts))

below : (n a b next : ℕ) → n < a + 1 → next ≡ a + b + 1 → n < next
below n a b next low is = omega (arith, low, is)

next_below : (n a b next : ℕ) → n ≡ a + 1 → 0 < b → next ≡ a + b + 1 → n < next
next_below n a b next e some is = omega (arith, e, some, is)

some_in : {X : Type 0} (xs : List X) (x : X) → In x xs → 0 < length xs
some_in [] x i = absurd i
some_in (y ∷ ys) x i = omega arith

never_below : (n k next : ℕ) → n < next → k ≡ next → k ≡ n → ⊥
never_below n k next low a b = omega (arith, low, a, b)

old_named : (l : Life) (h : History) (a : Answer) → IsStated h a → Kept l h → (e : Entry) → In e (entries h.facts) → is_numbered (after_replies l a.replies) e.number ≡ true → is_named (after_replies l a.replies) e.order.who e.order.id ≡ true
old_named l h a k kept e i is = by (gained l a.replies e.number is)
  where
    by : (is_numbered l e.number ≡ true) ⊎ IsGained (after_replies l a.replies) a.replies e.number → is_named (after_replies l a.replies) e.order.who e.order.id ≡ true
    by (inl was) = (grows_replies l a.replies).names e.order.who e.order.id ((kept e i).1 was)
    by (inr g) =
        let says = number_stated g.reply.to (said g.reply) e.number g.number in
        let found = stated_entry h a k g.reply e.number g.reply.to says.0 g.there says.1 in
        absurd (never_below e.number found.entry.number (next_order h.facts) (kept e i).0 (only h (entries a.facts) k.next found.entry found.there).0 found.number)

new_named : (l : Life) (h : History) (a : Answer) → IsStated h a → (e : Entry) → In e (entries a.facts) → is_numbered (after_replies l a.replies) e.number ≡ true → is_named (after_replies l a.replies) e.order.who e.order.id ≡ true
new_named l h a k e i is = by (gained l a.replies e.number is)
  where
    by : (is_numbered l e.number ≡ true) ⊎ IsGained (after_replies l a.replies) a.replies e.number → is_named (after_replies l a.replies) e.order.who e.order.id ≡ true
    by (inl was) =
        let x = happened_stated h a k (fact.Entered e) (HasEntered e.number e.order.who e.order.id) (entry_fact a.facts e i) (inl refl) in
        let about = or_left (reports_said l (said x.0)) (replaces_said l x.0.to (said x.0)) (stated_about l x.0.to (said x.0) (HasEntered e.number e.order.who e.order.id) x.2 was) in
        (about_noted l a.replies x.0 x.1 about).names e.order.who e.order.id (stated_names x.0.to (said x.0) e.number e.order.who e.order.id x.2)
    by (inr g) =
        let says = number_stated g.reply.to (said g.reply) e.number g.number in
        let found = stated_entry h a k g.reply e.number g.reply.to says.0 g.there says.1 in
        let same : found.entry ≡ e = (only h (entries a.facts) k.next e i).1 found.entry found.there in
        let named = g.noted.names g.reply.to says.0 (stated_names g.reply.to (said g.reply) e.number g.reply.to says.0 says.1) in
        subst (λ (id : List ℕ). is_named (after_replies l a.replies) e.order.who id ≡ true) (sym found.named ∙ ap (λ (y : Entry). y.order.id) same)
        (subst (λ (who : ℕ). is_named (after_replies l a.replies) who says.0 ≡ true) (sym found.owner ∙ ap (λ (y : Entry). y.order.who) same) named)

kept_on : (l : Life) (h : History) (a : Answer) → IsStated h a → Kept l h → Kept (after_replies l a.replies) (after h a)
kept_on l h a k kept e i = by (In-append_cases (entries h.facts) (entries a.facts) e (subst (In e) (entries_after h a) i))
  where
    by : In e (entries h.facts) ⊎ In e (entries a.facts) → (e.number < next_order (after h a).facts) × (is_numbered (after_replies l a.replies) e.number ≡ true → is_named (after_replies l a.replies) e.order.who e.order.id ≡ true)
    by (inl old) = (below e.number (length (entries h.facts)) (length (entries a.facts)) (next_order (after h a).facts) (kept e old).0 (next_after h a), old_named l h a k kept e old)
    by (inr new) = (next_below e.number (length (entries h.facts)) (length (entries a.facts)) (next_order (after h a).facts) (only h (entries a.facts) k.next e new).0 (some_in (entries a.facts) e new) (next_after h a), new_named l h a k e new)

-- a row's input alone changes no number and no name
kept_at : (l : Life) (h : History) (i : Input) → Kept l h → Kept (at_input l i) h
kept_at l h i kept = kept

kept_from : (m : Market) (scope : Scope) (number : ℕ) (s : Seen) (h : History) (is : List Input) → Kept s.life h → Kept (seen_from m (seeks scope number) s h is).life (run_from m h is).history
kept_from m scope number s h [] kept = kept
kept_from m scope number s h (i ∷ is) kept =
    let a = answer_input m h i in
    kept_from m scope number (seen_after (seeks scope number) s i a.replies) (after h a) is (kept_on (at_input s.life i) h a (input_stated m h i) (kept_at s.life h i kept))

sought_from : (m : Market) (scope : Scope) (number : ℕ) (s : Seen) (h : History) (is : List Input) → is_numbered s.life number ≡ true → is_numbered (seen_from m (seeks scope number) s h is).life number ≡ true
sought_from m scope number s h [] e = e
sought_from m scope number s h (i ∷ is) e =
    let a = answer_input m h i in
    sought_from m scope number (seen_after (seeks scope number) s i a.replies) (after h a) is ((grows_replies (at_input s.life i) a.replies).numbers number e)

-- A fact about an order is stated by a reply that is noted.

abbrev IsStating : Answer → ℕ → Fact → Type 0
IsStating a n f = ((event : Event) × In event (happened f) × (event_number event ≡ n)) ⊎ ((r : Removal) × (removal_in f ≡ Some r) × (r.order ≡ n))

traded_event_at : (p : TradeSource) (n : ℕ) → takes_part n p ≡ true → (event : Event) × In event (traded_at p) × (event_number event ≡ n)
traded_event_at (InRoom room quote) n e = absurd (true≢false (sym e))
traded_event_at (InBook resting entering) n e = by (or_cases (resting == n) (entering == n) e)
  where
    by : ((resting == n) ≡ true) ⊎ ((entering == n) ≡ true) → (event : Event) × In event (HasTraded entering ∷ HasTraded resting ∷ []) × (event_number event ≡ n)
    by (inl a) = (HasTraded resting, inr (inl refl), eqb-true resting n a)
    by (inr b) = (HasTraded entering, inl refl, eqb-true entering n b)

stating : (a : Answer) (n : ℕ) (f : Fact) → is_of n f ≡ true → IsStating a n f
stating a n (fact.Entered e) is = inl (HasEntered e.number e.order.who e.order.id, inl refl, eqb-true e.number n is)
stating a n (fact.Traded t) is = inl (traded_event_at t.place n is)
stating a n (fact.Removed r) is = inr (r, refl, eqb-true r.order n is)
stating a n (fact.Held x) is = absurd (true≢false (sym is))
stating a n (fact.Unheld x) is = absurd (true≢false (sym is))
stating a n (fact.Asked x) is = absurd (true≢false (sym is))
stating a n (fact.Quoted x) is = absurd (true≢false (sym is))
stating a n (fact.Withdrawn x) is = absurd (true≢false (sym is))
stating a n (fact.Closed x) is = absurd (true≢false (sym is))

-- the reply of a removal
record IsGone (l : Life) (a : Answer) : Type 0 where
  pub reply : Reply
  pub there : In reply a.replies
  pub about : about_said l reply.to (said reply) ≡ true

cancelled_about : (l : Life) (a : Answer) (r : Removal) (c : IsCancelled a r) → is_numbered l r.order ≡ true → about_said l c.reply.to (said c.reply) ≡ true
cancelled_about l a r c i = subst (λ (s : Said). about_said l c.reply.to s ≡ true) (sym c.says) (or_left (is_numbered l r.order) false i)

replaced_about : (l : Life) (h : History) (a : Answer) (r : Removal) → Kept l h → (p : IsReplaced h a r) → is_numbered l r.order ≡ true → about_said l p.reply.to (said p.reply) ≡ true
replaced_about l h a r kept p i =
    let named : is_named l p.earlier.order.who p.earlier.order.id ≡ true = (kept p.earlier p.entered).1 (numbered_at l p.earlier.number r.order p.number i) in
    subst (λ (s : Said). about_said l p.reply.to s ≡ true) (sym p.says)
    (or_right (is_numbered l p.entry.number) (is_named l p.reply.to p.earlier.order.id) (subst (λ (who : ℕ). is_named l who p.earlier.order.id ≡ true) (sym p.to) named))

gone_about : (l : Life) (h : History) (a : Answer) (r : Removal) → Kept l h → IsCancelled a r ⊎ IsReplaced h a r → is_numbered l r.order ≡ true → IsGone l a
gone_about l h a r kept (inl c) i = record { reply = c.reply; there = c.there; about = cancelled_about l a r c i }
gone_about l h a r kept (inr p) i = record { reply = p.reply; there = p.there; about = replaced_about l h a r kept p i }

here_by : (l : Life) (h : History) (a : Answer) → IsStated h a → Kept l h → (n : ℕ) (f : Fact) → In f a.facts → is_numbered l n ≡ true → IsStating a n f → (after_replies l a.replies).here ≡ true
here_by l h a k kept n f i was (inl t) =
    let x = happened_stated h a k f t.0 i t.1 in
    (about_noted l a.replies x.0 x.1 (or_left (reports_said l (said x.0)) (replaces_said l x.0.to (said x.0)) (stated_about l x.0.to (said x.0) t.0 x.2 (numbered_at l (event_number t.0) n t.2 was)))).here
here_by l h a k kept n f i was (inr t) =
    let g = gone_about l h a t.0 kept (k.gone t.0 (In-filter_map removal_in a.facts f t.0 i t.1)) (numbered_at l t.0.order n t.2 was) in
    (about_noted l a.replies g.reply g.there g.about).here

shown_by : (l : Life) (h : History) (a : Answer) → IsStated h a → Kept l h → list_any (is_of_life (after_replies l a.replies)) a.facts ≡ true → (after_replies l a.replies).here ≡ true
shown_by l h a k kept e =
    let f = any_in (is_of_life (after_replies l a.replies)) a.facts e in
    let n = any_in (λ (number : ℕ). is_of number f.0) (after_replies l a.replies).numbers f.2 in
    by n.0 f.0 f.1 n.2 (gained l a.replies n.0 (in_any (λ (x : ℕ). x == n.0) (after_replies l a.replies).numbers n.0 n.1 (eq-eqb n.0 n.0 refl)))
  where
    by : (n : ℕ) (f : Fact) → In f a.facts → is_of n f ≡ true → (is_numbered l n ≡ true) ⊎ IsGained (after_replies l a.replies) a.replies n → (after_replies l a.replies).here ≡ true
    by n f i is (inl was) = here_by l h a k kept n f i was (stating a n f is)
    by n f i is (inr g) = g.noted.here

-- the number of what replaces an order comes to its numbers

abbrev is_longer : List Fact → Bool
is_longer (x ∷ y ∷ xs) = true
is_longer _ = false

abbrev entry_number : Fact → ℕ
entry_number (fact.Entered e) = e.number
entry_number _ = 0

abbrev second_number : List Fact → ℕ
second_number (x ∷ y ∷ xs) = entry_number y
second_number _ = 0

followed_by : (l : Life) (h : History) (a : Answer) → IsStated h a → Kept l h → (r : Removal) (e : Entry) (facts : List Fact) → a.facts ≡ fact.Removed r ∷ fact.Entered e ∷ facts → is_numbered l r.order ≡ true → is_numbered (after_replies l a.replies) e.number ≡ true
followed_by l h a k kept r e facts is was = by (k.gone r (subst (λ (fs : List Fact). In r (removals fs)) (sym is) (inl refl)))
  where
    by : IsCancelled a r ⊎ IsReplaced h a r → is_numbered (after_replies l a.replies) e.number ≡ true
    by (inl c) = absurd (true≢false (ap is_longer (sym is ∙ c.facts)))
    by (inr p) =
        let same : p.entry.number ≡ e.number = ap second_number (sym p.facts ∙ is) in
        let noted = about_noted l a.replies p.reply p.there (replaced_about l h a r kept p was) in
        subst (λ (n : ℕ). is_numbered (after_replies l a.replies) n ≡ true) same
        (noted.numbers p.entry.number (ap (λ (s : Said). list_any (λ (n : ℕ). n == p.entry.number) (numbers_said s)) p.says ∙ or_left (p.entry.number == p.entry.number) false (eq-eqb p.entry.number p.entry.number refl)))

pub orders_are_whole : OrdersAreWhole
orders_are_whole m scope number is i =
    let h = (run m is).history in
    let a = answer_input m h i in
    let l = (seen_on m (seeks scope number) is).life in
    let kept = kept_from m scope number (unseen (seeks scope number)) no_history is (λ e k. absurd k) in
    let stated = input_stated m h i in
    record {
      sought = sought_from m scope number (unseen (seeks scope number)) no_history is (or_left (number == number) false (eq-eqb number number refl));
      kept = (grows_replies (at_input l i) a.replies).numbers;
      followed = λ r e facts is was. followed_by (at_input l i) h a stated (kept_at l h i kept) r e facts is was;
      shown = λ e. shown_by (at_input l i) h a stated (kept_at l h i kept) e;
    }
