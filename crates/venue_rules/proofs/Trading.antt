use Rattle.std.proofs.Common.{◌≡◌, refl, sym, ap, ◌∙◌, subst, inl, inr, ◌⊎◌, ℕ, ◌+◌, ◌-◌, ◌<◌, ◌≤◌, ◌==◌, Bool, true, false, if◌then◌else◌, ◌||◌, List, [], ◌∷◌, ◌++◌, length, arith, ne_eqb, eqb-true, append-nil, length-append}
use Rattle.std.specs.List.{list_any, sum_by}
use Rattle.std.proofs.lemmas.Bool.{or_cases, or_from, true≢false}
use Rattle.std.proofs.lemmas.List.Elements.{filter_map-append}
use Rattle.std.proofs.lemmas.List.Folds.{list_any-append}
use Rattle.std.proofs.lemmas.List.Sums.{sum_by_push}
use Rattle.venue_rules.specs.declared.facts.Fact.{Fact}
use Rattle.venue_rules.specs.declared.facts.Fact.TheVariants.{Entered, Traded, Removed, Held, Unheld, Asked, Quoted, Withdrawn, Closed}
use Rattle.venue_rules.specs.declared.facts.Entry.{Entry}
use Rattle.venue_rules.specs.declared.facts.Trade.{Trade}
use Rattle.venue_rules.specs.declared.facts.TradeSource.{TradeSource}
use Rattle.venue_rules.specs.declared.facts.TradeSource.TheVariants.{Book as InBook, Room as InRoom}
use Rattle.venue_rules.specs.declared.replies.Reply.{Reply}
use Rattle.venue_rules.specs.Market.{Market}
use Rattle.venue_rules.specs.Facts.{entries, entry_in, trades, trade_in}
use Rattle.venue_rules.specs.Book.{left, removes, takes_part, traded}
use Rattle.venue_rules.proofs.Members.{In, In-append_cases, Places, Places-one, Places-upto}
use Rattle.venue_rules.proofs.Follows.{Follows, TradeFollows}

-- Traded quantities: 0 for a number not yet given, and at most an order's quantity.

-- nothing was traded under this number, and nothing removed it
abbrev pub IsFresh : List Fact → ℕ → Type 0
IsFresh facts n = (list_any (removes n) facts ≡ false) × (traded facts n ≡ 0)

-- orders are numbered by place, and numbers past the last are fresh
pub record Numbered (facts : List Fact) : Type 0 where
  pub places : Places (λ (y : Entry). y.number) 0 (entries facts)
  pub fresh : (n : ℕ) → length (entries facts) < n → IsFresh facts n

-- a fresh order's leaves quantity is its quantity
pub fresh-left : (facts : List Fact) (e : Entry) → IsFresh facts e.number → left facts e ≡ e.order.quantity
fresh-left facts e f = ap (λ b. if b then 0 else e.order.quantity - traded facts e.number) f.0 ∙ (ap (λ n. e.order.quantity - n) f.1 ∙ less_none e.order.quantity)
  where
    less_none : (n : ℕ) → n - 0 ≡ n
    less_none n = omega arith

-- a fact that is no trade leaves traded quantities
pub traded_quiet : (facts : List Fact) (f : Fact) (n : ℕ) → trades (f ∷ []) ≡ [] → traded (facts ++ (f ∷ [])) n ≡ traded facts n
traded_quiet facts f n none =
    ap (sum_by (λ (t : Trade). if takes_part n t.place then t.quantity else 0)) (filter_map-append trade_in facts (f ∷ []) ∙ (ap (λ ts. trades facts ++ ts) none ∙ append-nil (trades facts)))

traded_push : (facts : List Fact) (t : Trade) (n : ℕ) → traded (facts ++ (Traded t ∷ [])) n ≡ traded facts n + (if takes_part n t.place then t.quantity else 0)
traded_push facts t n =
    ap (sum_by (λ (u : Trade). if takes_part n u.place then u.quantity else 0)) (filter_map-append trade_in facts (Traded t ∷ [])) ∙ sum_by_push (λ (u : Trade). if takes_part n u.place then u.quantity else 0) (trades facts) t

no_part : (k q : ℕ) (b : Bool) → b ≡ false → k + (if b then q else 0) ≡ k
no_part k q true h = absurd (true≢false h)
no_part k q false h = omega arith

traded_other : (facts : List Fact) (t : Trade) (n : ℕ) → takes_part n t.place ≡ false → traded (facts ++ (Traded t ∷ [])) n ≡ traded facts n
traded_other facts t n h = traded_push facts t n ∙ no_part (traded facts n) t.quantity (takes_part n t.place) h

removed_quiet : (facts : List Fact) (f : Fact) (n : ℕ) → list_any (removes n) facts ≡ false → removes n f ≡ false → list_any (removes n) (facts ++ (f ∷ [])) ≡ false
removed_quiet facts f n h k = list_any-append (removes n) facts (f ∷ []) ∙ or_from (list_any (removes n) facts) (removes n f || false) h (or_from (removes n f) false k refl)

pub fresh-quiet : (facts : List Fact) (f : Fact) (n : ℕ) → IsFresh facts n → removes n f ≡ false → trades (f ∷ []) ≡ [] → IsFresh (facts ++ (f ∷ [])) n
fresh-quiet facts f n h k none = (removed_quiet facts f n h.0 k, traded_quiet facts f n none ∙ h.1)

fresh-traded : (facts : List Fact) (t : Trade) (n : ℕ) → IsFresh facts n → takes_part n t.place ≡ false → IsFresh (facts ++ (Traded t ∷ [])) n
fresh-traded facts t n h k = (removed_quiet facts (Traded t) n h.0 refl, traded_other facts t n k ∙ h.1)

-- an entered order's number is at most the last
pub not_past : (facts : List Fact) (e : Entry) (k n : ℕ) → Places (λ (y : Entry). y.number) 0 (entries facts) → In e (entries facts) → e.number ≡ k → length (entries facts) < n → (k == n) ≡ false
not_past facts e k n places i same past =
    let most : e.number < 0 + length (entries facts) + 1 = Places-upto (λ (y : Entry). y.number) 0 (entries facts) places e i in
    ne_eqb k n (λ h. absurd (omega (arith, most, same, past, h)))

-- a further fact

grown : (facts : List Fact) (f : Fact) (n : ℕ) → length (entries (facts ++ (f ∷ []))) < n → length (entries facts) < n
grown facts f n h =
    let more : length (entries (facts ++ (f ∷ []))) ≡ length (entries facts) + length (entries (f ∷ [])) = ap length (filter_map-append entry_in facts (f ∷ [])) ∙ length-append (entries facts) (entries (f ∷ [])) in
    omega (arith, h, more)

traded-fresh : (m : Market) (facts : List Fact) (t : Trade) (n : ℕ) → Numbered facts → IsFresh facts n → length (entries facts) < n → (place : TradeSource) → t.place ≡ place → TradeFollows m facts t place → IsFresh (facts ++ (Traded t ∷ [])) n
traded-fresh m facts t n known fresh past (InBook old new) at p =
    fresh-traded facts t n fresh (ap (takes_part n) at ∙ or_from (old == n) (new == n) (not_past facts p.1.entry old n known.places p.9 p.5 past) (not_past facts p.0 new n known.places p.3 p.4 past))
traded-fresh m facts t n known fresh past (InRoom room quote) at p = fresh-traded facts t n fresh (ap (takes_part n) at)

pub follows-fresh : (m : Market) (rs : List Reply) (facts : List Fact) (f : Fact) → Numbered facts → Follows m rs facts f → (n : ℕ) → length (entries (facts ++ (f ∷ []))) < n → IsFresh (facts ++ (f ∷ [])) n
follows-fresh m rs facts (Entered e) known p n h = fresh-quiet facts (Entered e) n (known.fresh n (grown facts (Entered e) n h)) refl refl
follows-fresh m rs facts (Traded t) known p n h = traded-fresh m facts t n known (known.fresh n (grown facts (Traded t) n h)) (grown facts (Traded t) n h) t.place refl p
follows-fresh m rs facts (Removed r) known p n h = fresh-quiet facts (Removed r) n (known.fresh n (grown facts (Removed r) n h)) (not_past facts p.0 r.order n known.places p.1 p.2 (grown facts (Removed r) n h)) refl
follows-fresh m rs facts (Held k) known p n h = fresh-quiet facts (Held k) n (known.fresh n (grown facts (Held k) n h)) refl refl
follows-fresh m rs facts (Unheld u) known p n h = fresh-quiet facts (Unheld u) n (known.fresh n (grown facts (Unheld u) n h)) refl refl
follows-fresh m rs facts (Asked r) known p n h = fresh-quiet facts (Asked r) n (known.fresh n (grown facts (Asked r) n h)) refl refl
follows-fresh m rs facts (Quoted q) known p n h = fresh-quiet facts (Quoted q) n (known.fresh n (grown facts (Quoted q) n h)) refl refl
follows-fresh m rs facts (Withdrawn w) known p n h = fresh-quiet facts (Withdrawn w) n (known.fresh n (grown facts (Withdrawn w) n h)) refl refl
follows-fresh m rs facts (Closed c) known p n h = fresh-quiet facts (Closed c) n (known.fresh n (grown facts (Closed c) n h)) refl refl

-- no order trades more than its quantity

abbrev pub TradesWithin : List Fact → Type 0
TradesWithin facts = (y : Entry) → In y (entries facts) → traded facts y.number ≤ y.order.quantity

added_within : (removed : Bool) (q s z : ℕ) → z ≤ (if removed then 0 else q - s) → s ≤ q → s + z ≤ q
added_within true q s z h k = omega (arith, h, k)
added_within false q s z h k = omega (arith, h, k)

same_entries : (facts : List Fact) (f : Fact) (y : Entry) → entries (f ∷ []) ≡ [] → In y (entries (facts ++ (f ∷ []))) → In y (entries facts)
same_entries facts f y none i = subst (λ es. In y es) (filter_map-append entry_in facts (f ∷ []) ∙ (ap (λ es. entries facts ++ es) none ∙ append-nil (entries facts))) i

within-quiet : (facts : List Fact) (f : Fact) → TradesWithin facts → entries (f ∷ []) ≡ [] → trades (f ∷ []) ≡ [] → TradesWithin (facts ++ (f ∷ []))
within-quiet facts f w none quiet y i = subst (λ n. n ≤ y.order.quantity) (sym (traded_quiet facts f y.number quiet)) (w y (same_entries facts f y none i))

-- a trade of at most an order's leaves quantity
within-part : (facts : List Fact) (t : Trade) (y : Entry) → traded facts y.number ≤ y.order.quantity → (takes_part y.number t.place ≡ true → t.quantity ≤ left facts y) → traded (facts ++ (Traded t ∷ [])) y.number ≤ y.order.quantity
within-part facts t y w part = subst (λ n. n ≤ y.order.quantity) (sym (traded_push facts t y.number)) (by (takes_part y.number t.place) part)
  where
    none : (n : ℕ) → n + 0 ≡ n
    none n = omega arith

    by : (b : Bool) → (b ≡ true → t.quantity ≤ left facts y) → traded facts y.number + (if b then t.quantity else 0) ≤ y.order.quantity
    by true h = added_within (list_any (removes y.number) facts) y.order.quantity (traded facts y.number) t.quantity (h refl) w
    by false h = subst (λ n. n ≤ y.order.quantity) (sym (none (traded facts y.number))) w

traded-within : (m : Market) (facts : List Fact) (t : Trade) → Numbered facts → TradesWithin facts → (place : TradeSource) → t.place ≡ place → TradeFollows m facts t place → TradesWithin (facts ++ (Traded t ∷ []))
traded-within m facts t known w (InBook old new) at p y i = within-part facts t y (w y j) (λ h. by (or_cases (old == y.number) (new == y.number) (sym (ap (takes_part y.number) at) ∙ h)))
  where
    j : In y (entries facts)
    j = same_entries facts (Traded t) y refl i

    by : ((old == y.number) ≡ true) ⊎ ((new == y.number) ≡ true) → t.quantity ≤ left facts y
    by (inl h) = subst (λ (x : Entry). t.quantity ≤ left facts x) (Places-one (λ (x : Entry). x.number) 0 (entries facts) known.places p.1.entry y p.9 j (p.5 ∙ eqb-true old y.number h)) p.13
    by (inr h) = subst (λ (x : Entry). t.quantity ≤ left facts x) (Places-one (λ (x : Entry). x.number) 0 (entries facts) known.places p.0 y p.3 j (p.4 ∙ eqb-true new y.number h)) p.12
traded-within m facts t known w (InRoom room quote) at p y i = within-part facts t y (w y (same_entries facts (Traded t) y refl i)) (λ h. absurd (true≢false (sym h ∙ ap (takes_part y.number) at)))

entered-within : (facts : List Fact) (e : Entry) → Numbered facts → TradesWithin facts → e.number ≡ length (entries facts) + 1 → TradesWithin (facts ++ (Entered e ∷ []))
entered-within facts e known w number y i =
    subst (λ n. n ≤ y.order.quantity) (sym (traded_quiet facts (Entered e) y.number refl)) (by (In-append_cases (entries facts) (e ∷ []) y (subst (λ es. In y es) (filter_map-append entry_in facts (Entered e ∷ [])) i)))
  where
    last : length (entries facts) < e.number
    last = omega (arith, number)

    by : In y (entries facts) ⊎ In y (e ∷ []) → traded facts y.number ≤ y.order.quantity
    by (inl j) = w y j
    by (inr (inl h)) = subst (λ (x : Entry). traded facts x.number ≤ x.order.quantity) h (subst (λ n. n ≤ e.order.quantity) (sym (known.fresh e.number last).1) (omega arith))
    by (inr (inr k)) = absurd k

pub follows-within : (m : Market) (rs : List Reply) (facts : List Fact) (f : Fact) → Numbered facts → TradesWithin facts → Follows m rs facts f → TradesWithin (facts ++ (f ∷ []))
follows-within m rs facts (Entered e) known w p = entered-within facts e known w p
follows-within m rs facts (Traded t) known w p = traded-within m facts t known w t.place refl p
follows-within m rs facts (Removed r) known w p = within-quiet facts (Removed r) w refl refl
follows-within m rs facts (Held k) known w p = within-quiet facts (Held k) w refl refl
follows-within m rs facts (Unheld u) known w p = within-quiet facts (Unheld u) w refl refl
follows-within m rs facts (Asked r) known w p = within-quiet facts (Asked r) w refl refl
follows-within m rs facts (Quoted q) known w p = within-quiet facts (Quoted q) w refl refl
follows-within m rs facts (Withdrawn k) known w p = within-quiet facts (Withdrawn k) w refl refl
follows-within m rs facts (Closed c) known w p = within-quiet facts (Closed c) w refl refl
