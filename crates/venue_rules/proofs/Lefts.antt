use Rattle.std.proofs.Common.{◌≡◌, refl, sym, ap, ◌∙◌, subst, inl, inr, ◌⊎◌, ℕ, ◌+◌, ◌-◌, ◌<◌, ◌==◌, Bool, true, false, cond, if◌then◌else◌, not, ◌&&◌, ◌||◌, nat_lt, List, [], ◌∷◌, ◌++◌, map, filter, arith, lt-ltb, eqb-true, eq-eqb, ne_eqb, append-nil}
use Rattle.std.specs.List.{list_any, sum_by}
use Rattle.std.proofs.lemmas.Bool.{or_from, true≢false, and_parts, and_right, and_left, not_from_false, not_from_true}
use Rattle.std.proofs.lemmas.List.Elements.{filter_map-append, filter-append}
use Rattle.std.proofs.lemmas.List.Folds.{list_any-append}
use Rattle.std.proofs.lemmas.List.Sums.{sum_by_push}
use Rattle.std.proofs.lemmas.List.{map-append}
use Rattle.fix_dictionary.specs.declared.values.Side.{Side}
use Rattle.fix_dictionary.specs.declared.values.Side.TheVariants.{Buy, Sell}
use Rattle.venue_rules.specs.declared.facts.Fact.{Fact}
use Rattle.venue_rules.specs.declared.facts.Fact.TheVariants.{Entered, Traded, Removed, Unheld}
use Rattle.venue_rules.specs.declared.facts.Entry.{Entry}
use Rattle.venue_rules.specs.declared.facts.Trade.{Trade}
use Rattle.venue_rules.specs.declared.facts.TradeSource.TheVariants.{Book as InBook}
use Rattle.venue_rules.specs.declared.facts.Removal.{Removal}
use Rattle.venue_rules.specs.declared.facts.Release.{Release}
use Rattle.venue_rules.specs.Facts.{entries, entry_in, trades, trade_in}
use Rattle.venue_rules.specs.Book.{Resting, left, removes, rests, resting, is_better, rank, ranked, traded, takes_part, opposite, is_side, is_day, with_left}
use Rattle.venue_rules.proofs.Members.{In, Places, Places-one, In-filter, filter-all, filter-none}
use Rattle.venue_rules.proofs.Puts.{put, ranked-push}
use Rattle.venue_rules.proofs.Ranks.{filter-ranked, ranked-Distinct, filter-Distinct, Places-Distinct, Distinct, In-ranked, with_left_from}

-- The resting orders after a further fact.

-- an entry's leaves quantity is unchanged where the entry is kept; an entry that is not kept no longer rests, or did
-- not rest before or after
abbrev pub Changes : ℕ → Side → (Entry → Bool) → (Entry → ℕ) → (Entry → ℕ) → Entry → Type 0
Changes x side kept before after e =
    ((after e ≡ before e) × (kept e ≡ true)) ⊎ ((rests x side (with_left after e) ≡ false) × ((rests x side (with_left before e) && kept e) ≡ false))

kept_cases : (kept : Entry → Bool) (r : Resting) (fs gs : List Resting) (b : Bool) → kept r.entry ≡ true → gs ≡ filter (λ (y : Resting). kept y.entry) fs → cond b (r ∷ gs) gs ≡ filter (λ (y : Resting). kept y.entry) (cond b (r ∷ fs) fs)
kept_cases kept r fs gs true k e = ap (λ zs. r ∷ zs) e ∙ sym (cons_kept (kept r.entry) k)
  where
    cons_kept : (c : Bool) → c ≡ true → cond c (r ∷ filter (λ (y : Resting). kept y.entry) fs) (filter (λ (y : Resting). kept y.entry) fs) ≡ r ∷ filter (λ (y : Resting). kept y.entry) fs
    cons_kept true h = refl
    cons_kept false h = absurd (true≢false (sym h))
kept_cases kept r fs gs false k e = e

gone_cases : (kept : Entry → Bool) (r r' : Resting) (fs gs : List Resting) (b b' : Bool) → b' ≡ false → (b && kept r.entry) ≡ false → gs ≡ filter (λ (y : Resting). kept y.entry) fs → cond b' (r' ∷ gs) gs ≡ filter (λ (y : Resting). kept y.entry) (cond b (r ∷ fs) fs)
gone_cases kept r r' fs gs b true h k e = absurd (true≢false h)
gone_cases kept r r' fs gs true false h k e = e ∙ sym (cons_gone (kept r.entry) k)
  where
    cons_gone : (c : Bool) → c ≡ false → cond c (r ∷ filter (λ (y : Resting). kept y.entry) fs) (filter (λ (y : Resting). kept y.entry) fs) ≡ filter (λ (y : Resting). kept y.entry) fs
    cons_gone true h = absurd (true≢false h)
    cons_gone false h = refl
gone_cases kept r r' fs gs false false h k e = e

one_change : (x : ℕ) (side : Side) (kept : Entry → Bool) (l l' : Entry → ℕ) (e : Entry) (fs gs : List Resting) → Changes x side kept l l' e → gs ≡ filter (λ (y : Resting). kept y.entry) fs
    → cond (rests x side (with_left l' e)) (with_left l' e ∷ gs) gs ≡ filter (λ (y : Resting). kept y.entry) (cond (rests x side (with_left l e)) (with_left l e ∷ fs) fs)
one_change x side kept l l' e fs gs (inl c) h =
    subst (λ n. let r : Resting = record { entry = e; left = n } in cond (rests x side r) (r ∷ gs) gs ≡ filter (λ (y : Resting). kept y.entry) (cond (rests x side (with_left l e)) (with_left l e ∷ fs) fs)) (sym c.0) (kept_cases kept (with_left l e) fs gs (rests x side (with_left l e)) c.1 h)
one_change x side kept l l' e fs gs (inr c) h = gone_cases kept (with_left l e) (with_left l' e) fs gs (rests x side (with_left l e)) (rests x side (with_left l' e)) c.0 c.1 h

all_changes : (x : ℕ) (side : Side) (kept : Entry → Bool) (l l' : Entry → ℕ) (es : List Entry) → ((e : Entry) → In e es → Changes x side kept l l' e)
    → filter (rests x side) (map (with_left l') es) ≡ filter (λ (y : Resting). kept y.entry) (filter (rests x side) (map (with_left l) es))
all_changes x side kept l l' [] c = refl
all_changes x side kept l l' (e ∷ es) c =
    one_change x side kept l l' e (filter (rests x side) (map (with_left l) es)) (filter (rests x side) (map (with_left l') es)) (c e (inl refl)) (all_changes x side kept l l' es (λ y i. c y (inr i)))

-- the same entries, filtered to those kept
pub resting-changed : (facts facts' : List Fact) (x : ℕ) (side : Side) (kept : Entry → Bool) → entries facts' ≡ entries facts → ((e : Entry) → In e (entries facts) → Changes x side kept (left facts) (left facts') e)
    → resting facts' x side ≡ filter (λ (y : Resting). kept y.entry) (resting facts x side)
resting-changed facts facts' x side kept same c =
    ap (λ es. ranked side (filter (rests x side) (map (with_left (left facts')) es))) same
    ∙ (ap (ranked side) (all_changes x side kept (left facts) (left facts') (entries facts) c) ∙ sym (filter-ranked side (λ (y : Resting). kept y.entry) (filter (rests x side) (map (with_left (left facts)) (entries facts)))))

-- members of the resting orders

pub In-resting : (facts : List Fact) (x : ℕ) (side : Side) (r : Resting) → In r (resting facts x side) → In r.entry (entries facts) × (r ≡ with_left (left facts) r.entry) × (rests x side r ≡ true)
In-resting facts x side r i =
    let k = In-filter (rests x side) (map (with_left (left facts)) (entries facts)) r (In-ranked side (filter (rests x side) (map (with_left (left facts)) (entries facts))) r i) in
    let w = with_left_from (left facts) (entries facts) r k.0 in
    (w.0, w.1, k.1)

pub resting-Distinct : (facts : List Fact) (x : ℕ) (side : Side) → Places (λ (e : Entry). e.number) 0 (entries facts) → Distinct (resting facts x side)
resting-Distinct facts x side p = ranked-Distinct side (filter (rests x side) (map (with_left (left facts)) (entries facts))) (filter-Distinct (rests x side) (map (with_left (left facts)) (entries facts)) (Places-Distinct (left facts) 0 (entries facts) p))

-- the parts of `rests`

pub rests_side : (x : ℕ) (side : Side) (r : Resting) → rests x side r ≡ true → is_side r.entry.order.side side ≡ true
rests_side x side r h = (and_parts (is_side r.entry.order.side side) (nat_lt 0 r.left) (and_parts (r.entry.order.instrument == x) (is_side r.entry.order.side side && nat_lt 0 r.left) (and_parts (is_day r.entry.order.life) (r.entry.order.instrument == x && (is_side r.entry.order.side side && nat_lt 0 r.left)) h).1).1).0

pub rests_instrument : (x : ℕ) (side : Side) (r : Resting) → rests x side r ≡ true → r.entry.order.instrument ≡ x
rests_instrument x side r h = eqb-true r.entry.order.instrument x (and_parts (r.entry.order.instrument == x) (is_side r.entry.order.side side && nat_lt 0 r.left) (and_parts (is_day r.entry.order.life) (r.entry.order.instrument == x && (is_side r.entry.order.side side && nat_lt 0 r.left)) h).1).0

pub rests_left : (x : ℕ) (side : Side) (r : Resting) → rests x side r ≡ true → nat_lt 0 r.left ≡ true
rests_left x side r h = (and_parts (is_side r.entry.order.side side) (nat_lt 0 r.left) (and_parts (r.entry.order.instrument == x) (is_side r.entry.order.side side && nat_lt 0 r.left) (and_parts (is_day r.entry.order.life) (r.entry.order.instrument == x && (is_side r.entry.order.side side && nat_lt 0 r.left)) h).1).1).1

pub not_rests_side : (x : ℕ) (side : Side) (r : Resting) → is_side r.entry.order.side side ≡ false → rests x side r ≡ false
not_rests_side x side r h = and_right (is_day r.entry.order.life) (r.entry.order.instrument == x && (is_side r.entry.order.side side && nat_lt 0 r.left)) (and_right (r.entry.order.instrument == x) (is_side r.entry.order.side side && nat_lt 0 r.left) (and_left (is_side r.entry.order.side side) (nat_lt 0 r.left) h))

pub not_rests_left : (x : ℕ) (side : Side) (r : Resting) → r.left ≡ 0 → rests x side r ≡ false
not_rests_left x side r h = and_right (is_day r.entry.order.life) (r.entry.order.instrument == x && (is_side r.entry.order.side side && nat_lt 0 r.left)) (and_right (r.entry.order.instrument == x) (is_side r.entry.order.side side && nat_lt 0 r.left) (and_right (is_side r.entry.order.side side) (nat_lt 0 r.left) (ap (λ n. nat_lt 0 n) h)))

pub side_opposite : (s : Side) → is_side s (opposite s) ≡ false
side_opposite Buy = refl
side_opposite Sell = refl

-- after an entry

pub left_entered : (facts : List Fact) (n : Entry) (e : Entry) → left (facts ++ (Entered n ∷ [])) e ≡ left facts e
left_entered facts n e =
    ap (λ b. if b then 0 else e.order.quantity - traded (facts ++ (Entered n ∷ [])) e.number) (list_any-append (removes e.number) facts (Entered n ∷ []) ∙ or_false (list_any (removes e.number) facts))
    ∙ ap (λ ts. if list_any (removes e.number) facts then 0 else e.order.quantity - sum_by (λ (t : Trade). if takes_part e.number t.place then t.quantity else 0) ts) (filter_map-append trade_in facts (Entered n ∷ []) ∙ append-nil (trades facts))
  where
    or_false : (b : Bool) → (b || false) ≡ b
    or_false true = refl
    or_false false = refl

filter-trivial : (rs : List Resting) → filter (λ (y : Resting). true) rs ≡ rs
filter-trivial rs = filter-all (λ (y : Resting). true) rs (λ y i. refl)

entered_gone : (x : ℕ) (side : Side) (r : Resting) → rests x side r ≡ false → filter (rests x side) (r ∷ []) ≡ []
entered_gone x side r h = filter-none (rests x side) (r ∷ []) none
  where
    none : (y : Resting) → In y (r ∷ []) → rests x side y ≡ false
    none y (inl e) = subst (λ z. rests x side z ≡ false) e h
    none y (inr i) = absurd i

-- an entering order changes nothing on the other side
pub resting-entered : (facts : List Fact) (n : Entry) (x : ℕ) (side : Side) → is_side n.order.side side ≡ false → resting (facts ++ (Entered n ∷ [])) x side ≡ resting facts x side
resting-entered facts n x side h =
    let l' : Entry → ℕ = left (facts ++ (Entered n ∷ [])) in
    let es : entries (facts ++ (Entered n ∷ [])) ≡ entries facts ++ (n ∷ []) = filter_map-append entry_in facts (Entered n ∷ []) in
    let old : filter (rests x side) (map (with_left l') (entries facts)) ≡ filter (rests x side) (map (with_left (left facts)) (entries facts)) =
    all_changes x side (λ e. true) (left facts) l' (entries facts) (λ e i. inl (left_entered facts n e, refl)) ∙ filter-trivial (filter (rests x side) (map (with_left (left facts)) (entries facts))) in
    let new : filter (rests x side) (with_left l' n ∷ []) ≡ [] = entered_gone x side (with_left l' n) (not_rests_side x side (with_left l' n) h) in
    ap (λ ys. ranked side (filter (rests x side) (map (with_left l') ys))) es
    ∙ ap (ranked side) (ap (filter (rests x side)) (map-append (with_left l') (entries facts) (n ∷ [])) ∙ (filter-append (rests x side) (map (with_left l') (entries facts)) (with_left l' n ∷ []) ∙ (ap (λ ys. filter (rests x side) (map (with_left l') (entries facts)) ++ ys) new ∙ (append-nil (filter (rests x side) (map (with_left l') (entries facts))) ∙ old))))

-- after a cancel or a replacement

pub entries_removed : (facts : List Fact) (r : Removal) → entries (facts ++ (Removed r ∷ [])) ≡ entries facts
entries_removed facts r = filter_map-append entry_in facts (Removed r ∷ []) ∙ append-nil (entries facts)

left_removed : (facts : List Fact) (r : Removal) (e : Entry) → left (facts ++ (Removed r ∷ [])) e ≡ (if list_any (removes e.number) facts || ((r.order == e.number) || false) then 0 else e.order.quantity - traded facts e.number)
left_removed facts r e =
    ap (λ b. if b then 0 else e.order.quantity - traded (facts ++ (Removed r ∷ [])) e.number) (list_any-append (removes e.number) facts (Removed r ∷ []))
    ∙ ap (λ ts. if list_any (removes e.number) facts || ((r.order == e.number) || false) then 0 else e.order.quantity - sum_by (λ (t : Trade). if takes_part e.number t.place then t.quantity else 0) ts) (filter_map-append trade_in facts (Removed r ∷ []) ∙ append-nil (trades facts))

removed_other : (any : Bool) (b : Bool) (q : ℕ) → b ≡ false → (if any || (b || false) then 0 else q) ≡ (if any then 0 else q)
removed_other true b q h = refl
removed_other false true q h = absurd (true≢false h)
removed_other false false q h = refl

-- a removed order changes nothing on the other side
pub resting-removed : (facts : List Fact) (r : Removal) (x : ℕ) (side : Side) → ((e : Entry) → In e (entries facts) → e.number ≡ r.order → is_side e.order.side side ≡ false) → resting (facts ++ (Removed r ∷ [])) x side ≡ resting facts x side
resting-removed facts r x side h = resting-changed facts (facts ++ (Removed r ∷ [])) x side (λ e. true) (entries_removed facts r) (λ e i. by e i (r.order == e.number) refl) ∙ filter-trivial (resting facts x side)
  where
    by : (e : Entry) → In e (entries facts) → (b : Bool) → (r.order == e.number) ≡ b → Changes x side (λ y. true) (left facts) (left (facts ++ (Removed r ∷ []))) e
    by e i true k =
        let s : is_side e.order.side side ≡ false = h e i (sym (eqb-true r.order e.number k)) in
        inr (not_rests_side x side (with_left (left (facts ++ (Removed r ∷ []))) e) s, and_left (rests x side (with_left (left facts) e)) true (not_rests_side x side (with_left (left facts) e) s))
    by e i false k = inl (left_removed facts r e ∙ removed_other (list_any (removes e.number) facts) (r.order == e.number) (e.order.quantity - traded facts e.number) k, refl)

-- after a trade

pub entries_traded : (facts : List Fact) (t : Trade) → entries (facts ++ (Traded t ∷ [])) ≡ entries facts
entries_traded facts t = filter_map-append entry_in facts (Traded t ∷ []) ∙ append-nil (entries facts)

less_still : (any : Bool) (q s z : ℕ) → (if any || false then 0 else q - (s + z)) ≡ (if any then 0 else q - s) - z
less_still true q s z = omega arith
less_still false q s z = omega arith

pub left_traded : (facts : List Fact) (t : Trade) (e : Entry) → left (facts ++ (Traded t ∷ [])) e ≡ left facts e - (if takes_part e.number t.place then t.quantity else 0)
left_traded facts t e =
    ap (λ b. if b then 0 else e.order.quantity - traded (facts ++ (Traded t ∷ [])) e.number) (list_any-append (removes e.number) facts (Traded t ∷ []))
    ∙ (ap (λ n. if list_any (removes e.number) facts || false then 0 else e.order.quantity - n) (ap (sum_by (λ (u : Trade). if takes_part e.number u.place then u.quantity else 0)) (filter_map-append trade_in facts (Traded t ∷ [])) ∙ sum_by_push (λ (u : Trade). if takes_part e.number u.place then u.quantity else 0) (trades facts) t)
    ∙ less_still (list_any (removes e.number) facts) e.order.quantity (traded facts e.number) (if takes_part e.number t.place then t.quantity else 0))

taken_all : (n q l : ℕ) (b : Bool) → b ≡ true → q ≡ n → (n - (if b then q else 0)) ≡ 0
taken_all n q l true h e = omega (arith, e)
taken_all n q l false h e = absurd (true≢false (sym h))

pub taken_none : (n q : ℕ) (b : Bool) → b ≡ false → (n - (if b then q else 0)) ≡ n
taken_none n q true h = absurd (true≢false h)
taken_none n q false h = omega arith

or_first : (a b : Bool) → a ≡ true → (a || b) ≡ true
or_first true b h = refl
or_first false b h = absurd (true≢false (sym h))

-- the best order, once filled, is gone, and the next one is the best
pub resting-traded : (facts : List Fact) (x : ℕ) (side : Side) (r : Resting) (worse : List Resting) (e : Entry) (t : Trade) → Places (λ (y : Entry). y.number) 0 (entries facts) → resting facts x side ≡ r ∷ worse → In e (entries facts) → is_side e.order.side side ≡ false
    → t.place ≡ InBook r.entry.number e.number → t.quantity ≡ r.left → resting (facts ++ (Traded t ∷ [])) x side ≡ worse
resting-traded facts x side r worse e t places best mine other place all =
    resting-changed facts (facts ++ (Traded t ∷ [])) x side (λ (y : Entry). not (r.entry.number == y.number)) (entries_traded facts t) (λ y i. by y i (r.entry.number == y.number) (e.number == y.number) refl refl) ∙ (ap (filter keeps) best ∙ (head_gone (keeps r) (not_from_true (r.entry.number == r.entry.number) (eq-eqb r.entry.number r.entry.number refl)) ∙ filter-all keeps worse rest))
  where
    keeps : Resting → Bool
    keeps y = not (r.entry.number == y.entry.number)

    here : In r (resting facts x side)
    here = subst (λ rs. In r rs) (sym best) (inl refl)

    is_r : In r.entry (entries facts) × (r ≡ with_left (left facts) r.entry) × (rests x side r ≡ true)
    is_r = In-resting facts x side r here

    head_gone : (b : Bool) → b ≡ false → cond b (r ∷ filter keeps worse) (filter keeps worse) ≡ filter keeps worse
    head_gone true h = absurd (true≢false h)
    head_gone false h = refl

    distinct : Distinct (r ∷ worse)
    distinct = subst Distinct best (resting-Distinct facts x side places)

    rest : (y : Resting) → In y worse → keeps y ≡ true
    rest y i = not_from_false (r.entry.number == y.entry.number) (ne_eqb r.entry.number y.entry.number (λ k. distinct.0 y i (sym k)))

    by : (y : Entry) → In y (entries facts) → (b c : Bool) → (r.entry.number == y.number) ≡ b → (e.number == y.number) ≡ c → Changes x side (λ (z : Entry). not (r.entry.number == z.number)) (left facts) (left (facts ++ (Traded t ∷ []))) y
    by y i true c h k =
        let same : y ≡ r.entry = Places-one (λ (z : Entry). z.number) 0 (entries facts) places y r.entry i is_r.0 (sym (eqb-true r.entry.number y.number h)) in
        let part : takes_part y.number t.place ≡ true = ap (takes_part y.number) place ∙ or_first (r.entry.number == y.number) (e.number == y.number) h in
        let gone : left (facts ++ (Traded t ∷ [])) y ≡ 0 = left_traded facts t y ∙ taken_all (left facts y) t.quantity 0 (takes_part y.number t.place) part (all ∙ (ap (λ (z : Resting). z.left) is_r.1 ∙ ap (left facts) (sym same))) in
        inr (not_rests_left x side (with_left (left (facts ++ (Traded t ∷ []))) y) gone, and_right (rests x side (with_left (left facts) y)) (not (r.entry.number == y.number)) (not_from_true (r.entry.number == y.number) h))
    by y i false true h k =
        let same : y ≡ e = Places-one (λ (z : Entry). z.number) 0 (entries facts) places y e i mine (sym (eqb-true e.number y.number k)) in
        let s : is_side y.order.side side ≡ false = subst (λ (z : Entry). is_side z.order.side side ≡ false) (sym same) other in
        inr (not_rests_side x side (with_left (left (facts ++ (Traded t ∷ []))) y) s, and_left (rests x side (with_left (left facts) y)) (not (r.entry.number == y.number)) (not_rests_side x side (with_left (left facts) y) s))
    by y i false false h k =
        let part : takes_part y.number t.place ≡ false = ap (takes_part y.number) place ∙ or_from (r.entry.number == y.number) (e.number == y.number) h k in
        inl (left_traded facts t y ∙ taken_none (left facts y) t.quantity (takes_part y.number t.place) part, not_from_false (r.entry.number == y.number) h)

-- after the end of a held side

pub entries_unheld : (facts : List Fact) (u : Release) → entries (facts ++ (Unheld u ∷ [])) ≡ entries facts
entries_unheld facts u = filter_map-append entry_in facts (Unheld u ∷ []) ∙ append-nil (entries facts)

or_none : (b : Bool) → (b || false) ≡ b
or_none true = refl
or_none false = refl

left_unheld : (facts : List Fact) (u : Release) (e : Entry) → left (facts ++ (Unheld u ∷ [])) e ≡ left facts e
left_unheld facts u e =
    ap (λ b. if b then 0 else e.order.quantity - traded (facts ++ (Unheld u ∷ [])) e.number) (list_any-append (removes e.number) facts (Unheld u ∷ []) ∙ or_none (list_any (removes e.number) facts))
    ∙ ap (λ ts. if list_any (removes e.number) facts then 0 else e.order.quantity - sum_by (λ (t : Trade). if takes_part e.number t.place then t.quantity else 0) ts) (filter_map-append trade_in facts (Unheld u ∷ []) ∙ append-nil (trades facts))

pub resting-unheld : (facts : List Fact) (u : Release) (x : ℕ) (side : Side) → resting (facts ++ (Unheld u ∷ [])) x side ≡ resting facts x side
resting-unheld facts u x side = resting-changed facts (facts ++ (Unheld u ∷ [])) x side (λ e. true) (entries_unheld facts u) (λ e i. inl (left_unheld facts u e, refl)) ∙ filter-trivial (resting facts x side)

-- the steps of a resting-order list: an order that comes to rest goes before the first that it beats

entered_stays : (x : ℕ) (side : Side) (r : Resting) → rests x side r ≡ true → filter (rests x side) (r ∷ []) ≡ r ∷ []
entered_stays x side r h = filter-all (rests x side) (r ∷ []) all
  where
    all : (y : Resting) → In y (r ∷ []) → rests x side y ≡ true
    all y (inl e) = subst (λ z. rests x side z ≡ true) e h
    all y (inr i) = absurd i

pub resting-rested : (facts : List Fact) (n : Entry) (x : ℕ) (side : Side) → rests x side (with_left (left (facts ++ (Entered n ∷ []))) n) ≡ true → resting (facts ++ (Entered n ∷ [])) x side ≡ put side (with_left (left (facts ++ (Entered n ∷ []))) n) (resting facts x side)
resting-rested facts n x side h =
    let l' : Entry → ℕ = left (facts ++ (Entered n ∷ [])) in
    let olds : List Resting = filter (rests x side) (map (with_left (left facts)) (entries facts)) in
    let es : entries (facts ++ (Entered n ∷ [])) ≡ entries facts ++ (n ∷ []) = filter_map-append entry_in facts (Entered n ∷ []) in
    let old : filter (rests x side) (map (with_left l') (entries facts)) ≡ olds = all_changes x side (λ e. true) (left facts) l' (entries facts) (λ e i. inl (left_entered facts n e, refl)) ∙ filter-trivial olds in
    let new : filter (rests x side) (with_left l' n ∷ []) ≡ with_left l' n ∷ [] = entered_stays x side (with_left l' n) h in
    ap (λ ys. ranked side (filter (rests x side) (map (with_left l') ys))) es
    ∙ (ap (ranked side) (ap (filter (rests x side)) (map-append (with_left l') (entries facts) (n ∷ [])) ∙ (filter-append (rests x side) (map (with_left l') (entries facts)) (with_left l' n ∷ []) ∙ (ap (λ ys. filter (rests x side) (map (with_left l') (entries facts)) ++ ys) new ∙ ap (λ ys. ys ++ (with_left l' n ∷ [])) old))) ∙ ranked-push side olds (with_left l' n))

-- a removed order is taken off
pub resting-taken_off : (facts : List Fact) (r : Removal) (x : ℕ) (side : Side) → resting (facts ++ (Removed r ∷ [])) x side ≡ filter (λ (y : Resting). not (r.order == y.entry.number)) (resting facts x side)
resting-taken_off facts r x side = resting-changed facts (facts ++ (Removed r ∷ [])) x side (λ (y : Entry). not (r.order == y.number)) (entries_removed facts r) (λ e i. by e (r.order == e.number) refl)
  where
    gone : (any b : Bool) (q : ℕ) → b ≡ true → (if any || (b || false) then 0 else q) ≡ 0
    gone true b q h = refl
    gone false true q h = refl
    gone false false q h = absurd (true≢false (sym h))

    by : (e : Entry) (b : Bool) → (r.order == e.number) ≡ b → Changes x side (λ (y : Entry). not (r.order == y.number)) (left facts) (left (facts ++ (Removed r ∷ []))) e
    by e true k =
        inr (not_rests_left x side (with_left (left (facts ++ (Removed r ∷ []))) e) (left_removed facts r e ∙ gone (list_any (removes e.number) facts) (r.order == e.number) (e.order.quantity - traded facts e.number) k), and_right (rests x side (with_left (left facts) e)) (not (r.order == e.number)) (not_from_true (r.order == e.number) k))
    by e false k = inl (left_removed facts r e ∙ removed_other (list_any (removes e.number) facts) (r.order == e.number) (e.order.quantity - traded facts e.number) k, not_from_false (r.order == e.number) k)

-- the best order, partially filled, stays the best

abbrev relabelled : (Entry → ℕ) → Resting → Resting
relabelled l y = with_left l y.entry

rank_case_relabelled : (l : Entry → ℕ) (side : Side) (r s : Resting) (ss : List Resting) (b : Bool) → rank side (relabelled l r) (map (relabelled l) ss) ≡ map (relabelled l) (rank side r ss)
    → (if b then relabelled l s ∷ rank side (relabelled l r) (map (relabelled l) ss) else relabelled l r ∷ relabelled l s ∷ map (relabelled l) ss) ≡ map (relabelled l) (if b then s ∷ rank side r ss else r ∷ s ∷ ss)
rank_case_relabelled l side r s ss true rec = ap (λ xs. relabelled l s ∷ xs) rec
rank_case_relabelled l side r s ss false rec = refl

rank-relabelled : (l : Entry → ℕ) (side : Side) (r : Resting) (ss : List Resting) → rank side (relabelled l r) (map (relabelled l) ss) ≡ map (relabelled l) (rank side r ss)
rank-relabelled l side r [] = refl
rank-relabelled l side r (s ∷ ss) = rank_case_relabelled l side r s ss (is_better side s.entry.order.price r.entry.order.price) (rank-relabelled l side r ss)

ranked-relabelled : (l : Entry → ℕ) (side : Side) (rs : List Resting) → ranked side (map (relabelled l) rs) ≡ map (relabelled l) (ranked side rs)
ranked-relabelled l side [] = refl
ranked-relabelled l side (r ∷ rs) = ap (rank side (relabelled l r)) (ranked-relabelled l side rs) ∙ rank-relabelled l side r (ranked side rs)

filter_case_relabelled : (l l' : Entry → ℕ) (e : Entry) (fs gs : List Resting) (b b' : Bool) → b' ≡ b → gs ≡ map (relabelled l') fs → cond b' (with_left l' e ∷ gs) gs ≡ map (relabelled l') (cond b (with_left l e ∷ fs) fs)
filter_case_relabelled l l' e fs gs true true h k = ap (λ xs. with_left l' e ∷ xs) k
filter_case_relabelled l l' e fs gs true false h k = absurd (true≢false (sym h))
filter_case_relabelled l l' e fs gs false true h k = absurd (true≢false h)
filter_case_relabelled l l' e fs gs false false h k = k

all_relabelled : (x : ℕ) (side : Side) (l l' : Entry → ℕ) (es : List Entry) → ((e : Entry) → In e es → rests x side (with_left l' e) ≡ rests x side (with_left l e)) → filter (rests x side) (map (with_left l') es) ≡ map (relabelled l') (filter (rests x side) (map (with_left l) es))
all_relabelled x side l l' [] h = refl
all_relabelled x side l l' (e ∷ es) h =
    filter_case_relabelled l l' e (filter (rests x side) (map (with_left l) es)) (filter (rests x side) (map (with_left l') es)) (rests x side (with_left l e)) (rests x side (with_left l' e)) (h e (inl refl)) (all_relabelled x side l l' es (λ y i. h y (inr i)))

map_same : (g : Resting → Resting) (rs : List Resting) → ((y : Resting) → In y rs → g y ≡ y) → map g rs ≡ rs
map_same g [] h = refl
map_same g (r ∷ rs) h = ap (λ z. z ∷ map g rs) (h r (inl refl)) ∙ ap (λ zs. r ∷ zs) (map_same g rs (λ y i. h y (inr i)))

pub taken_part : (n q : ℕ) (b : Bool) → b ≡ true → (n - (if b then q else 0)) ≡ n - q
taken_part n q true h = refl
taken_part n q false h = absurd (true≢false (sym h))

more_left : (n q l : ℕ) → n ≡ l → q < l → nat_lt 0 (n - q) ≡ nat_lt 0 n
more_left n q l e h = lt-ltb 0 (n - q) (omega (arith, e, h)) ∙ sym (lt-ltb 0 n (omega (arith, e, h)))

pub resting-filled_in_part : (facts : List Fact) (x : ℕ) (side : Side) (r : Resting) (worse : List Resting) (e : Entry) (t : Trade) → Places (λ (y : Entry). y.number) 0 (entries facts) → resting facts x side ≡ r ∷ worse → In e (entries facts) → is_side e.order.side side ≡ false
    → t.place ≡ InBook r.entry.number e.number → t.quantity < r.left → resting (facts ++ (Traded t ∷ [])) x side ≡ record { entry = r.entry; left = r.left - t.quantity } ∷ worse
resting-filled_in_part facts x side r worse e t places best mine other place part =
    ap (λ es. ranked side (filter (rests x side) (map (with_left l') es))) (entries_traded facts t)
    ∙ (ap (ranked side) (all_relabelled x side (left facts) l' (entries facts) (λ y i. stays y i (r.entry.number == y.number) (e.number == y.number) refl refl))
    ∙ (ranked-relabelled l' side (filter (rests x side) (map (with_left (left facts)) (entries facts)))
    ∙ (ap (map (relabelled l')) best
    ∙ (ap (λ n. let y : Resting = record { entry = r.entry; left = n } in y ∷ map (relabelled l') worse) new_left ∙ ap (λ ys. record { entry = r.entry; left = r.left - t.quantity } ∷ ys) (map_same (relabelled l') worse behind)))))
  where
    l' : Entry → ℕ
    l' = left (facts ++ (Traded t ∷ []))

    is_r : In r.entry (entries facts) × (r ≡ with_left (left facts) r.entry) × (rests x side r ≡ true)
    is_r = In-resting facts x side r (subst (λ rs. In r rs) (sym best) (inl refl))

    old_left : left facts r.entry ≡ r.left
    old_left = ap (λ (z : Resting). z.left) (sym is_r.1)

    takes_r : (y : Entry) → (r.entry.number == y.number) ≡ true → l' y ≡ left facts y - t.quantity
    takes_r y h = left_traded facts t y ∙ taken_part (left facts y) t.quantity (takes_part y.number t.place) (ap (takes_part y.number) place ∙ or_first (r.entry.number == y.number) (e.number == y.number) h)

    takes_none : (y : Entry) → (r.entry.number == y.number) ≡ false → (e.number == y.number) ≡ false → l' y ≡ left facts y
    takes_none y h k = left_traded facts t y ∙ taken_none (left facts y) t.quantity (takes_part y.number t.place) (ap (takes_part y.number) place ∙ or_from (r.entry.number == y.number) (e.number == y.number) h k)

    new_left : l' r.entry ≡ r.left - t.quantity
    new_left = takes_r r.entry (eq-eqb r.entry.number r.entry.number refl) ∙ ap (λ n. n - t.quantity) old_left

    stays : (y : Entry) → In y (entries facts) → (b c : Bool) → (r.entry.number == y.number) ≡ b → (e.number == y.number) ≡ c → rests x side (with_left l' y) ≡ rests x side (with_left (left facts) y)
    stays y i true c h k =
        let same : y ≡ r.entry = Places-one (λ (z : Entry). z.number) 0 (entries facts) places y r.entry i is_r.0 (sym (eqb-true r.entry.number y.number h)) in
        ap (λ b. is_day y.order.life && (y.order.instrument == x && (is_side y.order.side side && b))) (ap (λ n. nat_lt 0 n) (takes_r y h) ∙ more_left (left facts y) t.quantity r.left (ap (left facts) same ∙ old_left) part)
    stays y i false true h k =
        let same : y ≡ e = Places-one (λ (z : Entry). z.number) 0 (entries facts) places y e i mine (sym (eqb-true e.number y.number k)) in
        let s : is_side y.order.side side ≡ false = subst (λ (z : Entry). is_side z.order.side side ≡ false) (sym same) other in
        not_rests_side x side (with_left l' y) s ∙ sym (not_rests_side x side (with_left (left facts) y) s)
    stays y i false false h k = ap (λ n. let z : Resting = record { entry = y; left = n } in rests x side z) (takes_none y h k)

    distinct : Distinct (r ∷ worse)
    distinct = subst Distinct best (resting-Distinct facts x side places)

    behind : (y : Resting) → In y worse → relabelled l' y ≡ y
    behind y i =
        let is_y = In-resting facts x side y (subst (λ rs. In y rs) (sym best) (inr i)) in
        let not_r : (r.entry.number == y.entry.number) ≡ false = ne_eqb r.entry.number y.entry.number (λ k. distinct.0 y i (sym k)) in
        let not_e : (e.number == y.entry.number) ≡ false = ne_eqb e.number y.entry.number (λ k. other_side y is_y.0 is_y.2 k) in
        ap (λ n. let z : Resting = record { entry = y.entry; left = n } in z) (takes_none y.entry not_r not_e) ∙ sym is_y.1
      where
        other_side : (y : Resting) → In y.entry (entries facts) → rests x side y ≡ true → e.number ≡ y.entry.number → ⊥
        other_side y i h k =
            let same : e ≡ y.entry = Places-one (λ (z : Entry). z.number) 0 (entries facts) places e y.entry mine i k in
            true≢false (sym (rests_side x side y h) ∙ subst (λ (z : Entry). is_side z.order.side side ≡ false) same other)
