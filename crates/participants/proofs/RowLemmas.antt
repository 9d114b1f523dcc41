use Rattle.std.proofs.Common.{◌≡◌, refl, sym, ap, ◌∙◌, ℕ, ◌<◌, Bool, true, false, not, ◌&&◌, ◌||◌, ◌==◌, nat_lt, nat_le, List, [], ◌∷◌, map, length, get_or, bytes_eq, arith, eqb-true, lt-ltb, cond, ◌+◌, inl, inr, ◌⊎◌}
use Rattle.std.specs.List.{list_any, list_all, position_or_len}
use Rattle.std.proofs.lemmas.Bool.{true≢false, and_parts, or_parts, or_cases, or_left, or_right, or_from, not-false, not-true}
use Rattle.std.proofs.lemmas.Slice.Eq.{bytes_eq-Decides}
use Rattle.std.proofs.lemmas.List.Sums.{passes_at_first}
use Rattle.participants.specs.Names.{is_name}
use Rattle.participants.specs.Rows.{are_distinct, are_distinct_pairs, is_pair, is_participant_file, is_same_pair, most_participants}
use Rattle.participants.specs.Reading.{are_distinct_named, has_twice, has_unknown, is_apart, is_known, is_same_named, places}

-- Rows that are read without a fault keep the rules of a participant file.

pub both : (a b : Bool) → a ≡ true → b ≡ true → (a && b) ≡ true
both true b h k = k
both false b h k = absurd (true≢false (sym h))

false_or_true : (b : Bool) → (b ≡ true → b ≡ false) → b ≡ false
false_or_true true h = h refl
false_or_true false h = refl

-- a name among them has a place

within_cons : (p : List ℕ → Bool) (n : List ℕ) (ns : List (List ℕ)) (b : Bool) → p n ≡ b → (b || list_any p ns) ≡ true → (list_any p ns ≡ true → position_or_len p ns < length ns) → position_or_len p (n ∷ ns) < length (n ∷ ns)
within_cons p n ns true e h rest =
    let at : position_or_len p (n ∷ ns) ≡ 0 = ap (λ b. cond (not b) (1 + position_or_len p ns) 0) e in
    omega (arith, at)
within_cons p n ns false e h rest =
    let at : position_or_len p (n ∷ ns) ≡ 1 + position_or_len p ns = ap (λ b. cond (not b) (1 + position_or_len p ns) 0) e in
    omega (arith, at, rest h)

place-within : (p : List ℕ → Bool) (ns : List (List ℕ)) → list_any p ns ≡ true → position_or_len p ns < length ns
place-within p [] h = absurd (true≢false (sym h))
place-within p (n ∷ ns) h = within_cons p n ns (p n) refl h (λ k. place-within p ns k)

abbrev place : List (List ℕ) → List ℕ → ℕ
place ns name = position_or_len (bytes_eq name) ns

-- and is the name at that place
place-names : (ns : List (List ℕ)) (name : List ℕ) → is_known ns name ≡ true → name ≡ get_or ns (place ns name) []
place-names ns name known = (bytes_eq-Decides name (get_or ns (place ns name) [])).0 (passes_at_first (bytes_eq name) ns [] (place-within (bytes_eq name) ns known))

-- names at one place are the same
same_place : (ns : List (List ℕ)) (a b : List ℕ) → is_known ns a ≡ true → is_known ns b ≡ true → (place ns a == place ns b) ≡ true → bytes_eq a b ≡ true
same_place ns a b ka kb h = (bytes_eq-Decides a b).1 (place-names ns a ka ∙ (ap (λ k. get_or ns k []) (eqb-true (place ns a) (place ns b) h) ∙ sym (place-names ns b kb)))

two_of : (a b c d a' b' c' d' : Bool) → (a ≡ true → a' ≡ true) → (b ≡ true → b' ≡ true) → (c ≡ true → c' ≡ true) → (d ≡ true → d' ≡ true) → ((a && b) || (c && d)) ≡ true → ((a' && b') || (c' && d')) ≡ true
two_of a b c d a' b' c' d' f g h k e = by (or_cases (a && b) (c && d) e)
  where
    by : ((a && b) ≡ true) ⊎ ((c && d) ≡ true) → ((a' && b') || (c' && d')) ≡ true
    by (inl x) = or_left (a' && b') (c' && d') (both a' b' (f (and_parts a b x).0) (g (and_parts a b x).1))
    by (inr x) = or_right (a' && b') (c' && d') (both c' d' (h (and_parts c d x).0) (k (and_parts c d x).1))

-- both names of a pair are known
abbrev both_known : List (List ℕ) → List ℕ × List ℕ → Bool
both_known ns p = is_known ns p.0 && is_known ns p.1

same_pair : (ns : List (List ℕ)) (p q : List ℕ × List ℕ) → both_known ns p ≡ true → both_known ns q ≡ true → is_same_pair (places ns p) (places ns q) ≡ true → is_same_named p q ≡ true
same_pair ns p q kp kq =
    let p0 = (and_parts (is_known ns p.0) (is_known ns p.1) kp).0 in
    let p1 = (and_parts (is_known ns p.0) (is_known ns p.1) kp).1 in
    let q0 = (and_parts (is_known ns q.0) (is_known ns q.1) kq).0 in
    let q1 = (and_parts (is_known ns q.0) (is_known ns q.1) kq).1 in
    two_of (place ns p.0 == place ns q.0) (place ns p.1 == place ns q.1) (place ns p.0 == place ns q.1) (place ns p.1 == place ns q.0) (bytes_eq p.0 q.0) (bytes_eq p.1 q.1) (bytes_eq p.0 q.1) (bytes_eq p.1 q.0)
    (same_place ns p.0 q.0 p0 q0) (same_place ns p.1 q.1 p1 q1) (same_place ns p.0 q.1 p0 q1) (same_place ns p.1 q.0 p1 q0)

-- known pairs, each of two names
abbrev all_known : List (List ℕ) → List (List ℕ × List ℕ) → Bool
all_known ns ps = list_all (both_known ns) ps

not_again : (ns : List (List ℕ)) (p : List ℕ × List ℕ) (qs : List (List ℕ × List ℕ)) → both_known ns p ≡ true → all_known ns qs ≡ true → list_any (is_same_named p) qs ≡ false → list_any (is_same_pair (places ns p)) (map (places ns) qs) ≡ false
not_again ns p [] kp kq h = refl
not_again ns p (q ∷ qs) kp kq h =
    let known = and_parts (both_known ns q) (all_known ns qs) kq in
    let apart = or_parts (is_same_named p q) (list_any (is_same_named p) qs) h in
    or_from (is_same_pair (places ns p) (places ns q)) (list_any (is_same_pair (places ns p)) (map (places ns) qs))
    (false_or_true (is_same_pair (places ns p) (places ns q)) (λ e. absurd (true≢false (sym (same_pair ns p q kp known.0 e) ∙ apart.0))))
    (not_again ns p qs kp known.1 apart.1)

distinct_places : (ns : List (List ℕ)) (ps : List (List ℕ × List ℕ)) → all_known ns ps ≡ true → are_distinct_named ps ≡ true → are_distinct_pairs (map (places ns) ps) ≡ true
distinct_places ns [] k h = refl
distinct_places ns (p ∷ ps) k h =
    let known = and_parts (both_known ns p) (all_known ns ps) k in
    let parts = and_parts (not (list_any (is_same_named p) ps)) (are_distinct_named ps) h in
    both (not (list_any (is_same_pair (places ns p)) (map (places ns) ps))) (are_distinct_pairs (map (places ns) ps))
    (ap not (not_again ns p ps known.0 known.1 (not-true (list_any (is_same_named p) ps) parts.0))) (distinct_places ns ps known.1 parts.1)

places_are_pairs : (ns : List (List ℕ)) (ps : List (List ℕ × List ℕ)) → all_known ns ps ≡ true → list_all is_apart ps ≡ true → list_all (is_pair (length ns)) (map (places ns) ps) ≡ true
places_are_pairs ns [] k h = refl
places_are_pairs ns (p ∷ ps) k h =
    let known = and_parts (both_known ns p) (all_known ns ps) k in
    let names = and_parts (is_known ns p.0) (is_known ns p.1) known.0 in
    let apart = and_parts (is_apart p) (list_all is_apart ps) h in
    let first = place-within (bytes_eq p.0) ns names.0 in
    let second = place-within (bytes_eq p.1) ns names.1 in
    let differ = false_or_true (place ns p.0 == place ns p.1) (λ e. absurd (true≢false (sym (same_place ns p.0 p.1 names.0 names.1 e) ∙ not-true (bytes_eq p.0 p.1) apart.0))) in
    both (is_pair (length ns) (places ns p)) (list_all (is_pair (length ns)) (map (places ns) ps))
    (both (nat_lt (place ns p.0) (length ns)) (nat_lt (place ns p.1) (length ns) && not (place ns p.0 == place ns p.1)) (lt-ltb (place ns p.0) (length ns) first)
    (both (nat_lt (place ns p.1) (length ns)) (not (place ns p.0 == place ns p.1)) (lt-ltb (place ns p.1) (length ns) second) (ap not differ)))
    (places_are_pairs ns ps known.1 apart.1)

none_unknown : (ns : List (List ℕ)) (ps : List (List ℕ × List ℕ)) → list_any (has_unknown ns) ps ≡ false → all_known ns ps ≡ true
none_unknown ns [] h = refl
none_unknown ns (p ∷ ps) h =
    let parts = or_parts (has_unknown ns p) (list_any (has_unknown ns) ps) h in
    both (both_known ns p) (all_known ns ps) (not-false (both_known ns p) parts.0) (none_unknown ns ps parts.1)

pub rows-keep : (venue : List ℕ) (ns : List (List ℕ)) (ps : List (List ℕ × List ℕ)) → nat_le 1 (length ns) ≡ true → nat_le (length ns) most_participants ≡ true → is_name venue ≡ true → list_all is_name ns ≡ true → list_all is_apart ps ≡ true
    → has_twice venue ns ps ≡ false → list_any (has_unknown ns) ps ≡ false → is_participant_file (record { venue = venue; names = ns; pairs = map (places ns) ps }) ≡ true
rows-keep venue ns ps some few name all apart once known =
    let distinct = or_parts (not (are_distinct (venue ∷ ns))) (not (are_distinct_named ps)) once in
    let all_there = none_unknown ns ps known in
    both (nat_le 1 (length ns)) _ some (both (nat_le (length ns) most_participants) _ few (both (is_name venue) _ name (both (list_all is_name ns) _ all (both (are_distinct (venue ∷ ns)) _ (not-false (are_distinct (venue ∷ ns)) distinct.0)
    (both (list_all (is_pair (length ns)) (map (places ns) ps)) _ (places_are_pairs ns ps all_there apart) (distinct_places ns ps all_there (not-false (are_distinct_named ps) distinct.1)))))))
