-- Where no pair is listed, no two are related.
use Rattle.std.proofs.Common.{◌≡◌, refl, ap, sym, ◌∙◌, ℕ, zero, suc, Bool, true, false, not, ◌&&◌, ◌||◌, ◌==◌, nat_lt, nat_le, List, [], ◌∷◌, ◌++◌, cond, filter, length, map, arith}
use Rattle.std.specs.Prelude.{Contains}
use Rattle.std.specs.List.{list_all}
use Rattle.std.proofs.lemmas.Bool.{and_parts, or_from}
use Rattle.std.proofs.lemmas.Bool.Decides.{nat_tests}
use Rattle.participants.specs.Names.{is_name}
use Rattle.participants.specs.ParticipantFile.{ParticipantFile}
use Rattle.participants.specs.Rows.{are_distinct, are_distinct_pairs, is_pair, is_participant_file, most_participants}
use Rattle.participants.specs.Relations.{is_related, related}
use Rattle.unrelated_recipients.specs.Pairs.{NoneAreRelated, pairs_of_one, related_pairs}

-- nobody is related to itself, and whoever is related to another is so in either order

not_twice : (p q a : ℕ) → not (p == q) ≡ true → (p == a && q == a) ≡ false
not_twice p q a h = grind (arith, nat_tests)

not_itself : (count : ℕ) (pairs : List (ℕ × ℕ)) (a : ℕ) → list_all (is_pair count) pairs ≡ true → is_related pairs a a ≡ false
not_itself count [] a h = refl
not_itself count (p ∷ ps) a h =
    let here = and_parts (is_pair count p) (list_all (is_pair count) ps) h in
    let first = and_parts (nat_lt p.0 count) (nat_lt p.1 count && not (p.0 == p.1)) here.0 in
    let second = and_parts (nat_lt p.1 count) (not (p.0 == p.1)) first.1 in
    let apart = not_twice p.0 p.1 a second.1 in
    or_from ((p.0 == a && p.1 == a) || (p.0 == a && p.1 == a)) (is_related ps a a) (or_from (p.0 == a && p.1 == a) (p.0 == a && p.1 == a) apart apart) (not_itself count ps a here.1)

itself : (file : ParticipantFile) (a : ℕ) → is_participant_file file ≡ true → related file a a ≡ false
itself file a h =
    let some = and_parts (nat_le 1 (length file.names)) _ h in
    let few = and_parts (nat_le (length file.names) most_participants) _ some.1 in
    let venue = and_parts (is_name file.venue) _ few.1 in
    let names = and_parts (list_all is_name file.names) _ venue.1 in
    let distinct = and_parts (are_distinct (file.venue ∷ file.names)) _ names.1 in
    let pairs = and_parts (list_all (is_pair (length file.names)) file.pairs) (are_distinct_pairs file.pairs) distinct.1 in
    not_itself (length file.names) file.pairs a pairs.0

swapped : (pairs : List (ℕ × ℕ)) (a b : ℕ) → is_related pairs a b ≡ is_related pairs b a
swapped [] a b = refl
swapped (p ∷ ps) a b = ap (λ x. x || is_related ps a b) (either (p.0 == a && p.1 == b) (p.0 == b && p.1 == a)) ∙ ap (λ x. ((p.0 == b && p.1 == a) || (p.0 == a && p.1 == b)) || x) (swapped ps a b)
  where
    either : (x y : Bool) → (x || y) ≡ (y || x)
    either true true = refl
    either true false = refl
    either false true = refl
    either false false = refl

-- where nothing is listed

none_of_either : (xs ys : List (ℕ × ℕ)) → xs ++ ys ≡ [] → (xs ≡ []) × (ys ≡ [])
none_of_either [] ys h = (refl, h)
none_of_either (x ∷ xs) ys h = cc

none_of_one : (a : ℕ) (p : ℕ → Bool) (xs : List ℕ) (b : ℕ) → map {B = ℕ × ℕ} (λ (x : ℕ). (a, x)) (filter p xs) ≡ [] → Contains xs b → p b ≡ false
none_of_one a p [] b h (k, below, is) = absurd (omega (arith, below))
none_of_one a p (x ∷ xs) b h has = by (p x) refl h has (λ g more. none_of_one a p xs b g more)
  where
    by : (is : Bool) → p x ≡ is → map {B = ℕ × ℕ} (λ (y : ℕ). (a, y)) (cond is (x ∷ filter p xs) (filter p xs)) ≡ [] → Contains (x ∷ xs) b
        → (map {B = ℕ × ℕ} (λ (y : ℕ). (a, y)) (filter p xs) ≡ [] → Contains xs b → p b ≡ false) → p b ≡ false
    by true t h has rest = cc
    by false t h (zero, below, is) rest = ap p (sym is) ∙ t
    by false t h (suc k, below, is) rest = rest h (k, omega (arith, below), is)

pub none_are_related : NoneAreRelated
none_are_related file [] rule h a b (i, below, is) has_b = absurd (omega (arith, below))
none_are_related file (w ∷ ws) rule h a b (zero, i_below, is_a) (zero, j_below, is_b) =
    ap (λ (x : ℕ). related file x b) (sym is_a ∙ is_b) ∙ itself file b rule
none_are_related file (w ∷ ws) rule h a b (zero, i_below, is_a) (suc j, j_below, is_b) =
    ap (λ (x : ℕ). related file x b) (sym is_a)
    ∙ none_of_one w (related file w) ws b (none_of_either (pairs_of_one file w ws) (related_pairs file ws) h).0 (j, omega (arith, j_below), is_b)
none_are_related file (w ∷ ws) rule h a b (suc i, i_below, is_a) (zero, j_below, is_b) =
    swapped file.pairs a b
    ∙ (ap (λ (x : ℕ). related file x a) (sym is_b)
    ∙ none_of_one w (related file w) ws a (none_of_either (pairs_of_one file w ws) (related_pairs file ws) h).0 (i, omega (arith, i_below), is_a))
none_are_related file (w ∷ ws) rule h a b (suc i, i_below, is_a) (suc j, j_below, is_b) =
    none_are_related file ws rule (none_of_either (pairs_of_one file w ws) (related_pairs file ws) h).1 a b (i, omega (arith, i_below), is_a) (j, omega (arith, j_below), is_b)
