use Rattle.std.proofs.Common.{◌≡◌, refl, ap, ◌∙◌, ℕ, ◌+◌, ◌*◌, ◌/◌, ◌%◌, ◌<◌, ◌≤◌, Bool, true, false, not, ◌&&◌, ◌||◌, ◌==◌, nat_lt, nat_le, List, [], ◌∷◌, length, get_or, arith, ltb-true, leb-true, ne_eqb}
use Rattle.std.specs.List.{list_all}
use Rattle.std.proofs.lemmas.Bool.{and_parts, and_left, and_right, or_from}
use Rattle.std.proofs.lemmas.List.FromFn.{get_or-map-range_with_len}
use Rattle.participants.specs.Names.{is_name}
use Rattle.participants.specs.ParticipantFile.{ParticipantFile}
use Rattle.participants.specs.Rows.{are_distinct, are_distinct_pairs, is_pair, is_participant_file, most_participants}
use Rattle.participants.specs.Relations.{is_related, related}
use Rattle.participants.specs.Table.{related_table}

-- The table of relations is read at two places.

row : (a b : ℕ) → b < 32 → (a * 32 + b) / 32 ≡ a
row a b h = omega (arith, h)

column : (a b : ℕ) → b < 32 → (a * 32 + b) % 32 ≡ b
column a b h = omega (arith, h)

within : (a b : ℕ) → a < 32 → b < 32 → a * 32 + b < 1024
within a b h k = omega (arith, h, k)

pub table-at : (pairs : List (ℕ × ℕ)) (a b : ℕ) (d : Bool) → a < 32 → b < 32 → get_or (related_table pairs) (a * 32 + b) d ≡ is_related pairs a b
table-at pairs a b d h k =
    get_or-map-range_with_len (λ n. is_related pairs (n / 32) (n % 32)) 0 1024 (a * 32 + b) (a * 32 + b) d (within a b h k) (zero_less (a * 32 + b))
    ∙ (ap (λ n. is_related pairs n ((a * 32 + b) % 32)) (row a b k) ∙ ap (λ n. is_related pairs a n) (column a b k))
  where
    zero_less : (n : ℕ) → 0 + n ≡ n
    zero_less n = omega arith

-- a place outside the file is in no pair

not_there : (count p a : ℕ) → p < count → count ≤ a → (p == a) ≡ false
not_there count p a h k = ne_eqb p a (λ e. absurd (omega (arith, h, k, e)))

outside : (count : ℕ) (pairs : List (ℕ × ℕ)) (a b : ℕ) → list_all (is_pair count) pairs ≡ true → count ≤ a → is_related pairs a b ≡ false
outside count [] a b h k = refl
outside count (p ∷ ps) a b h k =
    let here = and_parts (is_pair count p) (list_all (is_pair count) ps) h in
    let first = and_parts (nat_lt p.0 count) (nat_lt p.1 count && not (p.0 == p.1)) here.0 in
    let second = and_parts (nat_lt p.1 count) (not (p.0 == p.1)) first.1 in
    or_from ((p.0 == a && p.1 == b) || (p.0 == b && p.1 == a)) (is_related ps a b)
    (or_from (p.0 == a && p.1 == b) (p.0 == b && p.1 == a) (and_left (p.0 == a) (p.1 == b) (not_there count p.0 a (ltb-true p.0 count first.0) k)) (and_right (p.0 == b) (p.1 == a) (not_there count p.1 a (ltb-true p.1 count second.0) k)))
    (outside count ps a b here.1 k)

swapped : (pairs : List (ℕ × ℕ)) (a b : ℕ) → is_related pairs a b ≡ is_related pairs b a
swapped [] a b = refl
swapped (p ∷ ps) a b = ap (λ x. x || is_related ps a b) (either (p.0 == a && p.1 == b) (p.0 == b && p.1 == a)) ∙ ap (λ x. ((p.0 == b && p.1 == a) || (p.0 == a && p.1 == b)) || x) (swapped ps a b)
  where
    either : (x y : Bool) → (x || y) ≡ (y || x)
    either true true = refl
    either true false = refl
    either false true = refl
    either false false = refl

pub first-outside : (file : ParticipantFile) (a b : ℕ) → is_participant_file file ≡ true → 32 ≤ a → related file a b ≡ false
first-outside file a b h k =
    let some = and_parts (nat_le 1 (length file.names)) _ h in
    let few = and_parts (nat_le (length file.names) most_participants) _ some.1 in
    let venue = and_parts (is_name file.venue) _ few.1 in
    let names = and_parts (list_all is_name file.names) _ venue.1 in
    let distinct = and_parts (are_distinct (file.venue ∷ file.names)) _ names.1 in
    let pairs = and_parts (list_all (is_pair (length file.names)) file.pairs) (are_distinct_pairs file.pairs) distinct.1 in
    outside (length file.names) file.pairs a b pairs.0 (omega (arith, leb-true (length file.names) most_participants few.0, k))

pub second-outside : (file : ParticipantFile) (a b : ℕ) → is_participant_file file ≡ true → 32 ≤ b → related file a b ≡ false
second-outside file a b h k = swapped file.pairs a b ∙ first-outside file b a h k
