use Rattle.std.proofs.Common.{◌≡◌, refl, sym, ap, ◌∙◌, ℕ, suc, zero, ◌+◌, ◌-◌, ◌≤◌, ◌<◌, min, Bool, true, false, cond, nat_lt, List, [], ◌∷◌, ◌++◌, filter, length, drop, get_or, ℤ, Some, None, option_map, arith}
use Rattle.std.specs.Option.{unwrap_or}
use Rattle.std.proofs.lemmas.Bool.Decides.{nat_tests}
use Rattle.std.proofs.lemmas.Int.{ints}
use Rattle.std.proofs.lemmas.List.{drop_all, length-map}
use Rattle.std.proofs.lemmas.List.Elements.{All-head, All-tail}
use Rattle.fix_dictionary.specs.declared.values.Side.{Side}
use Rattle.fix_dictionary.specs.declared.values.Side.TheVariants.{Buy, Sell}
use Rattle.venue_rules.specs.declared.facts.OrderFact.{OrderFact}
use Rattle.venue_rules.specs.Book.{Resting, accepts, opposite}
use Rattle.price_book.specs.declared.row.Row.{Row}
use Rattle.price_book.specs.declared.stored_order.StoredOrder.{StoredOrder}
use Rattle.price_book.specs.Live.{seen_slot}
use Rattle.price_book.specs.Numbered.{slot_at, AreKept}
use Rattle.price_book.specs.Rows.{row_of, rows_of, comes_before, AreRanked}
use Rattle.price_book.specs.Views.{share_out, left_over}

-- Shares of a side's orders, one by one.

share-nothing : (r : Resting) (q : ℕ) → min r.left q ≡ 0 → (rs : List Resting) → share_out q (r ∷ rs) ≡ share_out (q - r.left) rs
share-nothing r q h rs = ap (λ k. cond (nat_lt 0 k) (record { resting = r; quantity = min r.left q } ∷ share_out (q - r.left) rs) (share_out (q - r.left) rs)) h

-- a share, then the others
pub share-parts : (q : ℕ) (r : Resting) (rs : List Resting) → share_out q (r ∷ rs) ≡ share_out q (r ∷ []) ++ share_out (q - r.left) rs
share-parts q r rs = by (nat_lt 0 (min r.left q))
  where
    by : (b : Bool) → cond b (record { resting = r; quantity = min r.left q } ∷ share_out (q - r.left) rs) (share_out (q - r.left) rs) ≡ cond b (record { resting = r; quantity = min r.left q } ∷ []) [] ++ share_out (q - r.left) rs
    by true = refl
    by false = refl

pub share-spent : (rs : List Resting) → share_out 0 rs ≡ []
share-spent [] = refl
share-spent (r ∷ rs) = share-nothing r 0 (omega arith) rs ∙ ap (λ k. share_out k rs) (nothing r.left) ∙ share-spent rs
  where
    nothing : (a : ℕ) → 0 - a ≡ 0
    nothing a = omega arith

pub left-spent : (rs : List Resting) → left_over 0 rs ≡ 0
left-spent [] = refl
left-spent (r ∷ rs) = ap (λ k. left_over k rs) (nothing r.left) ∙ left-spent rs
  where
    nothing : (a : ℕ) → 0 - a ≡ 0
    nothing a = omega arith

-- after the first price that is not accepted none is
worse-refused : (side : Side) (limit : ℤ) (a b : Row) → comes_before (opposite side) b.price b.number a ≡ true → accepts side limit a.price ≡ false → accepts side limit b.price ≡ false
worse-refused Buy limit a b h k = grind (arith, ints, nat_tests)
worse-refused Sell limit a b h k = grind (arith, ints, nat_tests)

abbrev pub met : OrderFact → List Resting → List Resting
met o rs = filter (λ r. accepts o.side o.price r.entry.order.price) rs

all-refused : (o : OrderFact) (rs : List Resting) → ((k : ℕ) (d : Row) → k < length (rows_of rs) → accepts o.side o.price (get_or (rows_of rs) k d).price ≡ false) → met o rs ≡ []
all-refused o [] off = refl
all-refused o (r ∷ rs) off = ap (λ b. cond b (r ∷ met o rs) (met o rs)) (off 0 (row_of r) (omega arith)) ∙ all-refused o rs (λ k d h. off (suc k) d (omega (arith, h)))

pub met-refused : (o : OrderFact) (rs : List Resting) (i : ℕ) (row : Row) → AreRanked (opposite o.side) (rows_of rs) → i < length (rows_of rs) → row ≡ get_or (rows_of rs) i row → accepts o.side o.price row.price ≡ false → met o (drop i rs) ≡ []
met-refused o [] i row ranked h e off = absurd (omega (arith, h))
met-refused o (r ∷ rs) zero row ranked h e off =
    let first : accepts o.side o.price r.entry.order.price ≡ false = ap (λ (q : Row). accepts o.side o.price q.price) (sym e) ∙ off in
    ap (λ b. cond b (r ∷ met o rs) (met o rs)) first ∙ all-refused o rs (λ k d j. worse-refused o.side o.price (row_of r) (get_or (rows_of rs) k d) (ranked 0 (suc k) d (omega arith) (omega (arith, j))) first)
met-refused o (r ∷ rs) (suc i) row ranked h e off = met-refused o rs i row (λ a b d j k. ranked (suc a) (suc b) d (omega (arith, j)) (omega (arith, k))) (omega (arith, h)) e off

met-one : (o : OrderFact) (rs : List Resting) (es : List (ℕ × StoredOrder)) (i : ℕ) (row : Row) (s : StoredOrder) → AreKept rs es → i < length (rows_of rs) → row ≡ get_or (rows_of rs) i row → slot_at es row.number ≡ Some s → accepts o.side o.price row.price ≡ true → met o (drop i rs) ≡ seen_slot s ∷ met o (drop (suc i) rs)
met-one o [] es i row s kept h e some on = absurd (omega (arith, h))
met-one o (r ∷ rs) es zero row s kept h e some on =
    let same : seen_slot s ≡ r = ap (λ p. unwrap_or p (seen_slot s)) (sym (ap (option_map seen_slot) some) ∙ ap (λ (q : Row). option_map seen_slot (slot_at es q.number)) e ∙ All-head (λ (r : Resting). option_map seen_slot (slot_at es r.entry.number) ≡ Some r) r rs kept) in
    ap (λ b. cond b (r ∷ met o rs) (met o rs)) (ap (λ (q : Row). accepts o.side o.price q.price) (sym e) ∙ on) ∙ ap (λ t. t ∷ met o rs) (sym same)
met-one o (r ∷ rs) es (suc i) row s kept h e some on = met-one o rs es i row s (All-tail (λ (r : Resting). option_map seen_slot (slot_at es r.entry.number) ≡ Some r) r rs kept) (omega (arith, h)) e some on

next : (i : ℕ) → suc i ≡ i + 1
next i = omega arith

pub met-next : (o : OrderFact) (rs : List Resting) (es : List (ℕ × StoredOrder)) (i : ℕ) (row : Row) (s : StoredOrder) → AreKept rs es → i < length (rows_of rs) → row ≡ get_or (rows_of rs) i row → slot_at es row.number ≡ Some s → accepts o.side o.price row.price ≡ true → met o (drop i rs) ≡ seen_slot s ∷ met o (drop (i + 1) rs)
met-next o rs es i row s kept h e some on = met-one o rs es i row s kept h e some on ∙ ap (λ k. seen_slot s ∷ met o (drop k rs)) (next i)

pub met-kept : (rs : List Resting) (es : List (ℕ × StoredOrder)) (i : ℕ) (row : Row) → AreKept rs es → i < length (rows_of rs) → row ≡ get_or (rows_of rs) i row → slot_at es row.number ≡ None → ⊥
met-kept [] es i row kept h e none = omega (arith, h)
met-kept (r ∷ rs) es zero row kept h e none = never (sym (ap (option_map seen_slot) none) ∙ ap (λ (q : Row). option_map seen_slot (slot_at es q.number)) e ∙ All-head (λ (r : Resting). option_map seen_slot (slot_at es r.entry.number) ≡ Some r) r rs kept)
  where
    never : None ≡ Some r → ⊥
    never h = cc
met-kept (r ∷ rs) es (suc i) row kept h e none = met-kept rs es i row (All-tail (λ (r : Resting). option_map seen_slot (slot_at es r.entry.number) ≡ Some r) r rs kept) (omega (arith, h)) e none

pub met-end : (o : OrderFact) (rs : List Resting) (i : ℕ) → length (rows_of rs) ≤ i → met o (drop i rs) ≡ []
met-end o rs i h = ap (met o) (drop_all i rs (omega (arith, h, length-map rs row_of)))
