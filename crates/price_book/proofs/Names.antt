use Rattle.std.proofs.Common.{◌≡◌, refl, sym, ap, ◌∙◌, ℕ, zero, suc, ◌+◌, ◌-◌, ◌≤◌, ◌<◌, ◌^◌, Bool, true, false, List, [], ◌∷◌, ◌++◌, map, length, get_or, nat_lt, cond, ◌==◌, Option, Some, None, option_map, inl, inr, arith, if◌then◌else◌}
use Rattle.std.specs.List.{remove, insert}
use Rattle.std.specs.List.Sorted.{IsPartitionedBy}
use Rattle.std.specs.Option.{unwrap_or}
use Rattle.std.specs.declared.cmp.Ordering.{Ordering}
use Rattle.std.specs.declared.cmp.Ordering.TheVariants.{Less, Equal, Greater}
use Rattle.std.specs.Ordering.{nat_cmp, ordering_then, ordering_index}
use Rattle.std.proofs.lemmas.Bool.{cases_lt}
use Rattle.std.proofs.lemmas.Bool.Decides.{nat_tests}
use Rattle.std.proofs.lemmas.Cmp.{tied_itself}
use Rattle.std.proofs.lemmas.List.{map-append, length-map, get_or_append_left}
use Rattle.std.proofs.lemmas.List.Edits.{length-remove, get_or-remove_below, get_or-remove_above}
use Rattle.std.proofs.Math.Seq.{get_or-append_seam}
use Rattle.venue_rules.specs.Book.{Resting}
use Rattle.client_ids.specs.declared.client_id.ClientId.{ClientId}
use Rattle.client_ids.specs.Search.{AreRising, IsPlace}
use Rattle.client_ids.specs.ClientIds.{hash_key_of, name_at, name_cmp, place_cmp, hash_key_order, spelled_order, lowered, closed, IsIndex, IsFirst}
use Rattle.client_ids.specs.ClientIds.{answer_at as name_answer, answer_behind as name_behind}
use Rattle.client_ids.proofs.Ordered.{name_total, then-less, nat-less, rising-at, rising-behind, first-found, none-found}
use Rattle.client_ids.proofs.Inserted.{added}
use Rattle.client_ids.proofs.Closed.{less}
use Rattle.venue_rules.specs.declared.facts.Entry.{Entry}
use Rattle.price_book.specs.declared.id_key.IdKey.{IdKey}
use Rattle.price_book.specs.declared.stored_order.StoredOrder.{StoredOrder}
use Rattle.price_book.specs.Live.{seen_slot, reduced, entry_name, names_of, find_live, Ledger, IsPlaceOf}
use Rattle.price_book.specs.Numbered.{numbered, slot_at, slot_order, IsNamed, IsListed, IsKeyAt, AreRisingHashKeys, number_at, key_of, no_key, keys_of, key_at, key_order, answer_at, answer_behind}
use Rattle.price_book.proofs.StoredOrderSteps.{map-remove}
use Rattle.price_book.proofs.Current.{AreLive, first-current, none-current}
use Rattle.price_book.proofs.Numbers.{number-one, number-read, numbered-at, mapped-reduced}

-- lists of keys

get_or-mapped : (f : ℕ → IdKey) (xs : List ℕ) (i : ℕ) → i < length xs → get_or (map f xs) i no_key ≡ f (get_or xs i 0)
get_or-mapped f [] i h = absurd (omega (arith, h))
get_or-mapped f (x ∷ xs) zero h = refl
get_or-mapped f (x ∷ xs) (suc i) h = get_or-mapped f xs i (omega (arith, h))

map-within : (f g : ℕ → IdKey) (xs : List ℕ) → ((i : ℕ) → i < length xs → f (get_or xs i 0) ≡ g (get_or xs i 0)) → map f xs ≡ map g xs
map-within f g [] h = refl
map-within f g (x ∷ xs) h = ap (λ y. y ∷ map f xs) (h 0 (omega arith)) ∙ ap (λ ys. g x ∷ ys) (map-within f g xs (λ i l. h (suc i) (omega (arith, l))))

map-twice : (f : ℕ → IdKey) (g : ℕ → ℕ) (xs : List ℕ) → map f (map g xs) ≡ map (λ k. f (g k)) xs
map-twice f g [] = refl
map-twice f g (x ∷ xs) = ap (λ ys. f (g x) ∷ ys) (map-twice f g xs)

map-insert : (f : ℕ → IdKey) (xs : List ℕ) (i x : ℕ) → map f (insert xs i x) ≡ insert (map f xs) i (f x)
map-insert f [] zero x = refl
map-insert f [] (suc i) x = refl
map-insert f (y ∷ ys) zero x = refl
map-insert f (y ∷ ys) (suc i) x = ap (λ zs. f y ∷ zs) (map-insert f ys i x)

-- names, keys and orders are equally many

names-count : (rs : List Resting) → length (names_of rs) ≡ length rs
names-count rs = length-map rs (λ (r : Resting). entry_name r.entry)

keys-count : (rs : List Resting) → length (keys_of rs) ≡ length rs
keys-count rs = length-map rs (λ (r : Resting). key_of r.entry)

index-count : (rs : List Resting) (ks : List IdKey) (n : IsNamed rs ks) → length ks ≡ length n.index
index-count rs ks n = ap length n.keys ∙ length-map n.index (key_at rs)

pub named-count : (rs : List Resting) (ks : List IdKey) → IsNamed rs ks → length ks ≡ length rs
named-count rs ks n = index-count rs ks n ∙ n.is.count ∙ names-count rs

key-there : (rs : List Resting) (ks : List IdKey) (n : IsNamed rs ks) (k : ℕ) → k < length n.index → get_or ks k no_key ≡ key_at rs (get_or n.index k 0)
key-there rs ks n k h = ap (λ xs. get_or xs k no_key) n.keys ∙ get_or-mapped (key_at rs) n.index k h

key-number : (rs : List Resting) (k : ℕ) → k < length rs → (key_at rs k).number ≡ number_at rs k
key-number [] k h = absurd (omega (arith, h))
key-number (r ∷ rs) zero h = refl
key-number (r ∷ rs) (suc k) h = key-number rs k (omega (arith, h))

key-read : (rs : List Resting) (j : ℕ) (d : Resting) → j < length rs → key_at rs j ≡ key_of (get_or rs j d).entry
key-read [] j d h = absurd (omega (arith, h))
key-read (r ∷ rs) zero d h = refl
key-read (r ∷ rs) (suc j) d h = key-read rs j d (omega (arith, h))

within : (rs : List Resting) (ks : List IdKey) (n : IsNamed rs ks) (k : ℕ) → k < length n.index → get_or n.index k 0 < length rs
within rs ks n k h = omega (arith, n.is.within k h, names-count rs)

-- a search by keys is one by names

order-seen : (o : Option StoredOrder) (r : Resting) (who : ℕ) (id : List ℕ) → option_map seen_slot o ≡ Some r → slot_order o who id ≡ spelled_order (entry_name r.entry) who id
order-seen None r who id h = cc
order-seen (Some s) r who id h = ap (λ (t : Resting). spelled_order (entry_name t.entry) who id) (ap (λ o. unwrap_or o (seen_slot s)) h)

name-read : (rs : List Resting) (j : ℕ) (d : Resting) → j < length rs → entry_name (get_or rs j d).entry ≡ name_at (names_of rs) j
name-read [] j d h = absurd (omega (arith, h))
name-read (r ∷ rs) zero d h = refl
name-read (r ∷ rs) (suc j) d h = name-read rs j d (omega (arith, h))

some-order : (rs : List Resting) (j : ℕ) → j < length rs → Resting
some-order [] j h = absurd (omega (arith, h))
some-order (r ∷ rs) j h = r

answer-same : (rs : List Resting) (es : List (ℕ × StoredOrder)) (ks : List IdKey) (l : IsListed rs es ks) (who : ℕ) (id : List ℕ) (k : ℕ) → k < length ks → answer_at es ks (hash_key_of who id) who id k ≡ name_answer (names_of rs) l.named.index who id k
answer-same rs es ks l who id k h =
    let in-index : k < length l.named.index = omega (arith, h, index-count rs ks l.named) in
    let j = get_or l.named.index k 0 in
    let below : j < length rs = within rs ks l.named k in-index in
    let d = some-order rs j below in
    let e : Entry = (get_or rs j d).entry in
    let m = hash_key_of who id in
    let stored_order : option_map seen_slot (slot_at es e.number) ≡ Some (get_or rs j d) = l.stored_orders e.number ∙ ap (λ n. numbered n rs) (sym (number-read rs j d below)) ∙ numbered-at 0 rs j d l.ledger below in
    ap (λ (key : IdKey). key_order es key m who id) (key-there rs ks l.named k in-index ∙ key-read rs j d below)
    ∙ ap (λ o. ordering_then (nat_cmp (hash_key_of e.order.who e.order.id) m) o) (order-seen (slot_at es e.number) (get_or rs j d) who id stored_order)
    ∙ ap (λ n. hash_key_order n m who id) (name-read rs j d below)

rising-same : (a b : ℕ → Ordering) (n m : ℕ) → n ≡ m → ((k : ℕ) → k < n → a k ≡ b k) → AreRising b m → AreRising a n
rising-same a b n m e same r i j h l = omega (arith, ap ordering_index (same i (omega (arith, h, l))), ap ordering_index (same j l), r i j h (omega (arith, e, l)))

place-same : (a b : ℕ → Ordering) (n m place : ℕ) (found : Bool) → n ≡ m → ((k : ℕ) → k < n → a k ≡ b k) → IsPlace a n place found → IsPlace b m place found
place-same a b n m place found e same p = record {
  within = omega (arith, p.within, e);
  below = λ k h. omega (arith, p.below k h, ap ordering_index (same k (omega (arith, h, p.within))));
  above = λ k h l. omega (arith, p.above k h (omega (arith, l, e)), ap ordering_index (same k (omega (arith, l, e))));
  here = λ f. let at = p.here f in (omega (arith, at.0, e), omega (arith, at.1, ap ordering_index (same place at.0)));
  nowhere = λ f k h l. omega (arith, p.nowhere f k h (omega (arith, l, e)), ap ordering_index (same k (omega (arith, l, e))));
}

pub listed-rising : (rs : List Resting) (es : List (ℕ × StoredOrder)) (ks : List IdKey) (who : ℕ) (id : List ℕ) → IsListed rs es ks → AreRising (answer_at es ks (hash_key_of who id) who id) (length ks)
listed-rising rs es ks who id l = rising-same (answer_at es ks (hash_key_of who id) who id) (name_answer (names_of rs) l.named.index who id) (length ks) (length l.named.index) (index-count rs ks l.named) (answer-same rs es ks l who id) (rising-at (names_of rs) l.named.index who id l.named.is)

pub behind-rising : (rs : List Resting) (es : List (ℕ × StoredOrder)) (ks : List IdKey) (who : ℕ) (id : List ℕ) → IsListed rs es ks → AreRising (answer_behind es ks (hash_key_of who id) who id) (length ks)
behind-rising rs es ks who id l = rising-same (answer_behind es ks (hash_key_of who id) who id) (name_behind (names_of rs) l.named.index who id) (length ks) (length l.named.index) (index-count rs ks l.named) (λ k h. ap lowered (answer-same rs es ks l who id k h)) (rising-behind (names_of rs) l.named.index who id l.named.is)

-- the first order with a name

ledger-alive : (low : ℕ) (rs : List Resting) → Ledger low rs → AreLive rs
ledger-alive low [] l = tt
ledger-alive low (r ∷ rs) l = (l.1, ledger-alive r.entry.number rs l.2)

pub listed-found : (rs : List Resting) (es : List (ℕ × StoredOrder)) (ks : List IdKey) (who : ℕ) (id : List ℕ) (at : ℕ) → IsListed rs es ks → IsPlace (answer_at es ks (hash_key_of who id) who id) (length ks) at true → option_map seen_slot (slot_at es (get_or ks at no_key).number) ≡ find_live who id rs
listed-found rs es ks who id at l p =
    let q : IsPlace (name_answer (names_of rs) l.named.index who id) (length l.named.index) at true = place-same (answer_at es ks (hash_key_of who id) who id) (name_answer (names_of rs) l.named.index who id) (length ks) (length l.named.index) at true (index-count rs ks l.named) (answer-same rs es ks l who id) p in
    let first : IsFirst (names_of rs) who id (Some (get_or l.named.index at 0)) = first-found (names_of rs) l.named.index who id at l.named.is q in
    let j = get_or l.named.index at 0 in
    let below : j < length rs = within rs ks l.named at (q.here refl).0 in
    let d = some-order rs j below in
    ap (λ n. option_map seen_slot (slot_at es n)) (ap (λ (key : IdKey). key.number) (key-there rs ks l.named at (q.here refl).0) ∙ key-number rs j below) ∙ l.stored_orders (number_at rs j) ∙ numbered-at 0 rs j d l.ledger below
    ∙ sym (first-current who id rs j d (ledger-alive 0 rs l.ledger) below first.1 first.2)

pub listed-none : (rs : List Resting) (es : List (ℕ × StoredOrder)) (ks : List IdKey) (who : ℕ) (id : List ℕ) (at : ℕ) → IsListed rs es ks → IsPlace (answer_at es ks (hash_key_of who id) who id) (length ks) at false → find_live who id rs ≡ None
listed-none rs es ks who id at l p =
    let q : IsPlace (name_answer (names_of rs) l.named.index who id) (length l.named.index) at false = place-same (answer_at es ks (hash_key_of who id) who id) (name_answer (names_of rs) l.named.index who id) (length ks) (length l.named.index) at false (index-count rs ks l.named) (answer-same rs es ks l who id) p in
    none-current who id rs (ledger-alive 0 rs l.ledger) (none-found (names_of rs) l.named.index who id at l.named.is q)

-- insertion of an order

mapped-push : (rs : List Resting) (r : Resting) → names_of (rs ++ r ∷ []) ≡ names_of rs ++ entry_name r.entry ∷ []
mapped-push rs r = map-append (λ (t : Resting). entry_name t.entry) rs (r ∷ [])

keys-push : (rs : List Resting) (r : Resting) → keys_of (rs ++ r ∷ []) ≡ keys_of rs ++ key_of r.entry ∷ []
keys-push rs r = map-append (λ (t : Resting). key_of t.entry) rs (r ∷ [])

pub named-pushed : (rs : List Resting) (es : List (ℕ × StoredOrder)) (ks : List IdKey) (r : Resting) (at : ℕ) (found : Bool) → IsListed rs es ks → length ks < 2 ^ 32 → IsPlace (answer_behind es ks (hash_key_of (entry_name r.entry).who (entry_name r.entry).id) (entry_name r.entry).who (entry_name r.entry).id) (length ks) at found → IsNamed (rs ++ r ∷ []) (insert ks at (key_of r.entry))
named-pushed rs es ks r at found l few p =
    let n : ClientId = entry_name r.entry in
    let index = l.named.index in
    let q : IsPlace (name_behind (names_of rs) index n.who n.id) (length index) at found = place-same (answer_behind es ks (hash_key_of n.who n.id) n.who n.id) (name_behind (names_of rs) index n.who n.id) (length ks) (length index) at found (index-count rs ks l.named) (λ k h. ap lowered (answer-same rs es ks l n.who n.id k h)) p in
    let is : IsIndex (names_of rs ++ n ∷ []) (insert index at (length (names_of rs))) = added (names_of rs) index n at found l.named.is q (omega (arith, few, named-count rs ks l.named, names-count rs)) in
    let last : key_at (rs ++ r ∷ []) (length (names_of rs)) ≡ key_of r.entry = ap (λ xs. get_or xs (length (names_of rs)) no_key) (keys-push rs r) ∙ ap (λ k. get_or (keys_of rs ++ key_of r.entry ∷ []) k no_key) (names-count rs ∙ sym (keys-count rs)) ∙ get_or-append_seam (keys_of rs) (key_of r.entry) [] no_key in
    let before : map (key_at rs) index ≡ map (key_at (rs ++ r ∷ [])) index = map-within (key_at rs) (key_at (rs ++ r ∷ [])) index (λ i h. sym (ap (λ xs. get_or xs (get_or index i 0) no_key) (keys-push rs r) ∙ get_or_append_left (keys_of rs) (key_of r.entry ∷ []) no_key (get_or index i 0) (omega (arith, within rs ks l.named i h, keys-count rs)))) in
    record {
      index = insert index at (length (names_of rs));
      is = rw (mapped-push rs r) is;
      keys = ap (λ xs. insert xs at (key_of r.entry)) (l.named.keys ∙ before) ∙ ap (λ y. insert (map (key_at (rs ++ r ∷ [])) index) at y) (sym last) ∙ sym (map-insert (key_at (rs ++ r ∷ [])) index at (length (names_of rs)));
    }

-- removal of an order

itself : (names : List ClientId) (a b : ℕ) → a ≡ b → name_cmp (name_at names a) (name_at names b) ≡ Less → ⊥
itself names a b e less = let equal : Less ≡ Equal = sym less ∙ ap (λ k. name_cmp (name_at names a) (name_at names k)) (sym e) ∙ tied_itself name_total (name_at names a) in cc

differ : (names : List ClientId) (index : List ℕ) (i j : ℕ) → IsIndex names index → i < j → j < length index → get_or index i 0 ≡ get_or index j 0 → ⊥
differ names index i j is h l same = elim (then-less (name_cmp (name_at names (get_or index i 0)) (name_at names (get_or index j 0))) (nat_cmp (get_or index i 0) (get_or index j 0)) (is.rising i j h l)).which [
  | inl less ↦ itself names (get_or index i 0) (get_or index j 0) same less
  | inr e ↦ omega (arith, nat-less (get_or index i 0) (get_or index j 0) e.1, same)
]

lt : (a b : ℕ) (c : Bool) → nat_lt a b ≡ c → (c ≡ true → a < b) × (c ≡ false → b ≤ a)
lt a b true e = ((λ h. grind (arith, nat_tests)), (λ h. cc))
lt a b false e = ((λ h. cc), (λ h. grind (arith, nat_tests)))

-- a key that stays is at the closed place
key-kept : (rs : List Resting) (g k : ℕ) → g < length rs → k < length rs → (k ≡ g → ⊥) → key_at (remove rs g) (closed g k) ≡ key_at rs k
key-kept rs g k h l other = ap (λ xs. get_or xs (closed g k) no_key) (sym (map-remove (λ (r : Resting). key_of r.entry) rs g)) ∙ by (nat_lt g k) refl
  where
    ks : List IdKey
    ks = keys_of rs

    by : (b : Bool) → nat_lt g k ≡ b → get_or (remove ks g) (if b then k - 1 else k) no_key ≡ get_or ks k no_key
    by true e =
        let more : g < k = (lt g k true e).0 refl in
        let next : k - 1 + 1 ≡ k = omega (arith, more) in
        get_or-remove_above ks g no_key (k - 1) (omega (arith, more)) (omega (arith, h, keys-count rs)) ∙ ap (λ m. get_or ks m no_key) next
    by false e =
        let no_more : k ≤ g = (lt g k false e).1 refl in
        let fewer : k < g = elim (cases_lt k g) [ inl y ↦ y | inr z ↦ absurd (other (omega (arith, z, no_more))) ] in
        get_or-remove_below ks g no_key k fewer (omega (arith, h, keys-count rs))

pub named-removed : (rs : List Resting) (ks : List IdKey) (k at : ℕ) → Ledger 0 rs → IsNamed rs ks → k < length rs → at < length ks → (get_or ks at no_key).number ≡ number_at rs k → IsNamed (remove rs k) (remove ks at)
named-removed rs ks k at l n below there same =
    let index = n.index in
    let at-index : at < length index = omega (arith, there, index-count rs ks n) in
    let here : get_or index at 0 ≡ k = number-one 0 rs (get_or index at 0) k l (within rs ks n at at-index) below (sym (key-number rs (get_or index at 0) (within rs ks n at at-index)) ∙ ap (λ (key : IdKey). key.number) (sym (key-there rs ks n at at-index)) ∙ same) in
    let is : IsIndex (remove (names_of rs) k) (map (closed k) (remove index at)) = less (names_of rs) index at k n.is at-index here in
    let other : (i j : ℕ) → i < length index → (i ≡ at → ⊥) → get_or index i 0 ≡ k → ⊥ = λ i j h off e. elim (cases_lt i at) [
      | inl y ↦ differ (names_of rs) index i at n.is y at-index (e ∙ sym here)
      | inr z ↦ elim (cases_lt at i) [
        | inl y ↦ differ (names_of rs) index at i n.is y h (here ∙ sym e)
        | inr w ↦ off (omega (arith, z, w))
      ]
    ] in
    let fewer = length-remove index at at-index in
    let stays : (i : ℕ) → i < length (remove index at) → key_at rs (get_or (remove index at) i 0) ≡ key_at (remove rs k) (closed k (get_or (remove index at) i 0)) = λ i h. elim (cases_lt i at) [
      | inl y ↦ let read = get_or-remove_below index at 0 i y at-index in
          rw read (sym (key-kept rs k (get_or index i 0) below (within rs ks n i (omega (arith, y, at-index))) (other i 0 (omega (arith, y, at-index)) (λ e. omega (arith, e, y)))))
      | inr z ↦ let read = get_or-remove_above index at 0 i z at-index in
          rw read (sym (key-kept rs k (get_or index (i + 1) 0) below (within rs ks n (i + 1) (omega (arith, h, fewer))) (other (i + 1) 0 (omega (arith, h, fewer)) (λ e. omega (arith, e, z)))))
    ] in
    record {
      index = map (closed k) (remove index at);
      is = rw (sym (map-remove (λ (r : Resting). entry_name r.entry) rs k)) is;
      keys = ap (λ xs. remove xs at) n.keys ∙ map-remove (key_at rs) index at ∙ map-within (key_at rs) (λ j. key_at (remove rs k) (closed k j)) (remove index at) stays ∙ sym (map-twice (key_at (remove rs k)) (closed k) (remove index at));
    }

-- the hash keys rise

no-more : (a b : ℕ) (o : Ordering) → ordering_index (ordering_then (nat_cmp a b) o) ≤ 1 → a ≤ b
no-more a b o h = by (nat_lt a b) (a == b) refl refl h
  where
    by : (s t : Bool) → nat_lt a b ≡ s → (a == b) ≡ t → ordering_index (ordering_then (cond s Less (cond t Equal Greater)) o) ≤ 1 → a ≤ b
    by true t e f h = grind (arith, nat_tests)
    by false true e f h = grind (arith, nat_tests)
    by false false e f h = absurd (omega (arith, h))

no-greater : (names : List ClientId) (a b : ℕ) → place_cmp names a b ≡ Less → ordering_index (name_cmp (name_at names a) (name_at names b)) ≤ 1
no-greater names a b h = elim (then-less (name_cmp (name_at names a) (name_at names b)) (nat_cmp a b) h).which [
  | inl less ↦ omega (arith, ap ordering_index less)
  | inr e ↦ omega (arith, ap ordering_index e.0)
]

key-hash_key : (rs : List Resting) (k : ℕ) → k < length rs → (key_at rs k).hash_key ≡ hash_key_of (name_at (names_of rs) k).who (name_at (names_of rs) k).id
key-hash_key [] k h = absurd (omega (arith, h))
key-hash_key (r ∷ rs) zero h = refl
key-hash_key (r ∷ rs) (suc k) h = key-hash_key rs k (omega (arith, h))

key-any : (ks : List IdKey) (i : ℕ) (d : IdKey) → i < length ks → get_or ks i d ≡ get_or ks i no_key
key-any [] i d h = absurd (omega (arith, h))
key-any (k ∷ ks) zero d h = refl
key-any (k ∷ ks) (suc i) d h = key-any ks i d (omega (arith, h))

hash_key-there : (rs : List Resting) (ks : List IdKey) (n : IsNamed rs ks) (i : ℕ) (d : IdKey) → i < length ks → (get_or ks i d).hash_key ≡ hash_key_of (name_at (names_of rs) (get_or n.index i 0)).who (name_at (names_of rs) (get_or n.index i 0)).id
hash_key-there rs ks n i d h =
    let inside : i < length n.index = omega (arith, h, index-count rs ks n) in
    ap (λ (key : IdKey). key.hash_key) (key-any ks i d h ∙ key-there rs ks n i inside) ∙ key-hash_key rs (get_or n.index i 0) (within rs ks n i inside)

pub hash_keys-rise : (rs : List Resting) (ks : List IdKey) → IsNamed rs ks → AreRisingHashKeys ks
hash_keys-rise rs ks n i j d h l =
    let a = name_at (names_of rs) (get_or n.index i 0) in
    let b = name_at (names_of rs) (get_or n.index j 0) in
    let rises : hash_key_of a.who a.id ≤ hash_key_of b.who b.id = no-more (hash_key_of a.who a.id) (hash_key_of b.who b.id) (spelled_order a b.who b.id) (no-greater (names_of rs) (get_or n.index i 0) (get_or n.index j 0) (n.is.rising i j h (omega (arith, l, index-count rs ks n)))) in
    omega (arith, rises, hash_key-there rs ks n i d (omega (arith, h, l)), hash_key-there rs ks n j d l)

pub parted-hash_keys : (m : ℕ) (ks : List IdKey) → AreRisingHashKeys ks → IsPartitionedBy (λ (key : IdKey). nat_lt key.hash_key m) ks
parted-hash_keys m ks rising i j d h l up = elim (cases_lt i j) [
  | inl less ↦ let rises = rising i j d less l in grind (arith, nat_tests)
  | inr no_less ↦ let same : i ≡ j = omega (arith, h, no_less) in ap (λ k. nat_lt (get_or ks k d).hash_key m) same ∙ up
]

abbrev the_key : ℕ → ℕ → IdKey
the_key m n = record { hash_key = m; number = n }

-- the place of an order's key: not among those with lesser hash keys
pub key-there-from : (rs : List Resting) (ks : List IdKey) (hash_key number from k : ℕ) → IsNamed rs ks → IsKeyAt rs hash_key number k → ((i : ℕ) → i < from → (get_or ks i no_key).hash_key < hash_key) → (i : ℕ) × (from ≤ i) × (i < length ks) × ((get_or ks i no_key).number ≡ number)
key-there-from rs ks hash_key number from k n is lesser =
    let c = n.is.covers k (omega (arith, is.0, names-count rs)) in
    let in-ks : c.0 < length ks = omega (arith, c.1, index-count rs ks n) in
    let key : get_or ks c.0 no_key ≡ record { hash_key = hash_key; number = number } = key-there rs ks n c.0 c.1 ∙ ap (key_at rs) c.2 ∙ is.1 in
    let behind : from ≤ c.0 = elim (cases_lt c.0 from) [ inl y ↦ absurd (omega (arith, lesser c.0 y, ap (λ (key : IdKey). key.hash_key) key)) | inr z ↦ z ] in
    (c.0, behind, in-ks, ap (λ (key : IdKey). key.number) key)

-- and its number is the order's
pub key-numbered : (rs : List Resting) (hash_key number k : ℕ) → IsKeyAt rs hash_key number k → number ≡ number_at rs k
key-numbered rs hash_key number k is = sym (ap (λ (key : IdKey). key.number) is.1) ∙ key-number rs k is.0

-- the place of an order has its key
pub place-key : (n : ℕ) (rs : List Resting) (k : ℕ) (s : StoredOrder) → IsPlaceOf n rs k → seen_slot s ≡ get_or rs k (seen_slot s) → IsKeyAt rs s.hash_key n k
place-key n rs k s p e = (p.0, key-read rs k (seen_slot s) p.0 ∙ ap (λ (t : Resting). key_of t.entry) (sym e) ∙ by (hash_key_of s.entry.order.who s.entry.order.id) s.entry.number (sym s.keyed) (ap (λ (t : Resting). t.entry.number) e ∙ p.1 (seen_slot s)))
  where
    by : (m number : ℕ) → m ≡ s.hash_key → number ≡ n → the_key m number ≡ the_key s.hash_key n
    by m number e f = ap (λ a. the_key a number) e ∙ ap (λ b. the_key s.hash_key b) f

-- a partially filled order
pub named-reduced : (n q : ℕ) (rs : List Resting) (r : Resting) (ks : List IdKey) → numbered n rs ≡ Some r → q < r.left → IsNamed rs ks → IsNamed (reduced n q rs) ks
named-reduced n q rs r ks some more named = record {
  index = named.index;
  is = rw (sym (mapped-reduced entry_name n q rs r some more)) named.is;
  keys = named.keys ∙ ap (λ xs. map (λ k. get_or xs k no_key) named.index) (mapped-reduced key_of n q rs r some more);
}
