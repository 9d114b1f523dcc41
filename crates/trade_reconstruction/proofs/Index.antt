-- Events are found by their keys.
use Rattle.std.proofs.Common.{◌≡◌, refl, sym, ap, subst, ◌∙◌, ℕ, zero, suc, ◌<◌, ◌≤◌, ◌%◌, Bool, true, false, cond, List, [], ◌∷◌, ◌++◌, All, filter, find, length, slice_get, option_map, Option, Some, None, append-nil, append_assoc, length-append, eq-eqb, eqb-true, if◌then◌else◌, arith}
use Rattle.std.specs.List.{flat_map}
use Rattle.std.proofs.lemmas.Bool.{true≢false}
use Rattle.std.proofs.lemmas.List.Elements.{All-cons, All-head, All-nil, All-tail, filter-append}
use Rattle.trade_reconstruction.specs.declared.evidence_event.EvidenceEvent.{EvidenceEvent}
use Rattle.trade_reconstruction.specs.Indexed.{ArePlaced, IsBucket, at, in_bucket, is_keyed, one_or_none}
use Rattle.trade_blotter.proofs.Lists.{none_is_some, same_some}
use Rattle.trade_reconstruction.proofs.Members.{found_first, found_later, found_longer}

-- What a filter keeps decides what is found, and what is picked of each element.

pub find_kept : {X : Type 0} (q p : X → Bool) → ((x : X) → q x ≡ true → p x ≡ true) → (xs : List X) → find q (filter p xs) ≡ find q xs
find_kept q p h [] = refl
find_kept {X} q p h (x ∷ xs) = by (find_kept q p h xs) (q x) refl (p x) refl
  where
    kept : Bool → Option X
    kept c = find q (cond c (x ∷ filter p xs) (filter p xs))

    later : Bool → Option X
    later b = cond b (Some x) (find q xs)

    by : find q (filter p xs) ≡ find q xs → (b : Bool) → q x ≡ b → (c : Bool) → p x ≡ c → kept (p x) ≡ later (q x)
    by rest true e true f = ap kept f ∙ (found_first q x (filter p xs) e ∙ ap later (sym e))
    by rest true e false f = absurd (true≢false (sym (h x e) ∙ f))
    by rest false e true f = ap kept f ∙ (found_later q x (filter p xs) e ∙ (rest ∙ ap later (sym e)))
    by rest false e false f = ap kept f ∙ (rest ∙ ap later (sym e))

pub flat_kept : {X Y : Type 0} (f : X → List Y) (p : X → Bool) → ((x : X) → p x ≡ false → f x ≡ []) → (xs : List X) → flat_map f (filter p xs) ≡ flat_map f xs
flat_kept f p h [] = refl
flat_kept {X} {Y} f p h (x ∷ xs) = by (flat_kept f p h xs) (p x) refl
  where
    kept : Bool → List Y
    kept c = flat_map f (cond c (x ∷ filter p xs) (filter p xs))

    by : flat_map f (filter p xs) ≡ flat_map f xs → (c : Bool) → p x ≡ c → kept (p x) ≡ f x ++ flat_map f xs
    by rest true e = ap kept e ∙ ap (λ (l : List Y). f x ++ l) rest
    by rest false e = ap kept e ∙ (rest ∙ ap (λ (l : List Y). l ++ flat_map f xs) (sym (h x e)))

-- lists of which a filter keeps the same
pub find_same : {X : Type 0} (q p : X → Bool) → ((x : X) → q x ≡ true → p x ≡ true) → (xs ys : List X) → filter p xs ≡ filter p ys → find q xs ≡ find q ys
find_same q p h xs ys e = sym (find_kept q p h xs) ∙ (ap (find q) e ∙ find_kept q p h ys)

pub flat_same : {X Y : Type 0} (f : X → List Y) (p : X → Bool) → ((x : X) → p x ≡ false → f x ≡ []) → (xs ys : List X) → filter p xs ≡ filter p ys → flat_map f xs ≡ flat_map f ys
flat_same f p h xs ys e = sym (flat_kept f p h xs) ∙ (ap (flat_map f) e ∙ flat_kept f p h ys)

pub filter_twice : {X : Type 0} (p q : X → Bool) → ((x : X) → p x ≡ true → q x ≡ true) → (xs : List X) → filter p (filter q xs) ≡ filter p xs
filter_twice p q h [] = refl
filter_twice {X} p q h (x ∷ xs) = by (filter_twice p q h xs) (q x) refl (p x) refl
  where
    kept : Bool → List X
    kept c = filter p (cond c (x ∷ filter q xs) (filter q xs))

    by : filter p (filter q xs) ≡ filter p xs → (c : Bool) → q x ≡ c → (b : Bool) → p x ≡ b → kept (q x) ≡ cond (p x) (x ∷ filter p xs) (filter p xs)
    by rest true e b f = ap kept e ∙ ap (λ (l : List X). cond (p x) (x ∷ l) l) rest
    by rest false e true f = absurd (true≢false (sym (h x f) ∙ e))
    by rest false e false f = ap kept e ∙ (rest ∙ ap (λ (b : Bool). cond b (x ∷ filter p xs) (filter p xs)) (sym f))

-- An event with a key is in the key's bucket.

keyed_here : (n k : ℕ) (o : Option ℕ) → is_keyed k o ≡ true → in_bucket n (k % n) o ≡ true
keyed_here n k None e = absurd (true≢false (sym e))
keyed_here n k (Some x) e = eq-eqb (x % n) (k % n) (ap (λ (y : ℕ). y % n) (eqb-true x k e))

pub bucket_has : (key : EvidenceEvent → Option ℕ) (words : List EvidenceEvent) (n k : ℕ) (places : List ℕ) → IsBucket key words n (k % n) places
    → filter (λ w. is_keyed k (key w)) (flat_map (at words) places) ≡ filter (λ w. is_keyed k (key w)) words
bucket_has key words n k places b =
    ap (filter (λ w. is_keyed k (key w))) b.holds
    ∙ filter_twice (λ w. is_keyed k (key w)) (λ w. in_bucket n (k % n) (key w)) (λ w e. keyed_here n k (key w) e) words

-- One more event: its place goes into the bucket of its key.

get_before : (words : List EvidenceEvent) (w : EvidenceEvent) (p : ℕ) → p < length words → slice_get (words ++ w ∷ []) p ≡ slice_get words p
get_before [] w p low = absurd (omega (arith, low))
get_before (x ∷ xs) w zero low = refl
get_before (x ∷ xs) w (suc p) low = get_before xs w p (omega (arith, low))

get_last : (words : List EvidenceEvent) (w : EvidenceEvent) → slice_get (words ++ w ∷ []) (length words) ≡ Some w
get_last [] w = refl
get_last (x ∷ xs) w = get_last xs w

at_stays : (words : List EvidenceEvent) (w : EvidenceEvent) (places : List ℕ) → All (λ p. p < length words) places → flat_map (at (words ++ w ∷ [])) places ≡ flat_map (at words) places
at_stays words w [] within = refl
at_stays words w (p ∷ ps) within =
    (λ j. one_or_none (get_before words w p (All-head (λ k. k < length words) p ps within) j) ++ at_stays words w ps (All-tail (λ k. k < length words) p ps within) j)

flat_last : {X Y : Type 0} (f : X → List Y) (xs : List X) (x : X) → flat_map f (xs ++ x ∷ []) ≡ flat_map f xs ++ f x
flat_last f [] x = append-nil (f x)
flat_last f (y ∷ ys) x = ap (λ l. f y ++ l) (flat_last f ys x) ∙ sym (append_assoc (f y) (flat_map f ys) (f x))

higher : (words : List EvidenceEvent) (w : EvidenceEvent) (places : List ℕ) → All (λ p. p < length words) places → All (λ p. p < length (words ++ w ∷ [])) places
higher words w [] within = All-nil (λ p. p < length (words ++ w ∷ []))
higher words w (p ∷ ps) within =
    All-cons (λ k. k < length (words ++ w ∷ [])) p ps (more p (All-head (λ k. k < length words) p ps within)) (higher words w ps (All-tail (λ k. k < length words) p ps within))
  where
    more : (p : ℕ) → p < length words → p < length (words ++ w ∷ [])
    more p low = omega (arith, low, length-append words (w ∷ []))

with_last : (words : List EvidenceEvent) (w : EvidenceEvent) (places : List ℕ) → All (λ p. p < length (words ++ w ∷ [])) places → All (λ p. p < length (words ++ w ∷ [])) (places ++ length words ∷ [])
with_last words w [] within = All-cons (λ k. k < length (words ++ w ∷ [])) (length words) [] (omega (arith, length-append words (w ∷ []))) (All-nil (λ p. p < length (words ++ w ∷ [])))
with_last words w (p ∷ ps) within =
    let P : ℕ → Type 0 = λ k. k < length (words ++ w ∷ []) in
    All-cons P p (ps ++ length words ∷ []) (All-head P p ps within) (with_last words w ps (All-tail P p ps within))

bucket_more : (key : EvidenceEvent → Option ℕ) (words : List EvidenceEvent) (w : EvidenceEvent) (n b : ℕ) (places : List ℕ) → IsBucket key words n b places
    → IsBucket key (words ++ w ∷ []) n b (if in_bucket n b (key w) then places ++ length words ∷ [] else places)
bucket_more key words w n b places old = by (in_bucket n b (key w)) refl
  where
    test : EvidenceEvent → Bool
    test x = in_bucket n b (key x)

    kept : (c : Bool) → test w ≡ c → filter test (words ++ w ∷ []) ≡ filter test words ++ cond c (w ∷ []) []
    kept c e = filter-append test words (w ∷ []) ∙ ap (λ (d : Bool). filter test words ++ cond d (w ∷ []) []) e

    by : (c : Bool) → test w ≡ c → IsBucket key (words ++ w ∷ []) n b (if in_bucket n b (key w) then places ++ length words ∷ [] else places)
    by true e = subst (λ (c : Bool). IsBucket key (words ++ w ∷ []) n b (if c then places ++ length words ∷ [] else places)) (sym e) (record {
      within = with_last words w places (higher words w places old.within);
      holds = flat_last (at (words ++ w ∷ [])) places (length words)
          ∙ ((λ j. (at_stays words w places old.within ∙ old.holds) j ++ one_or_none (get_last words w j)) ∙ sym (kept true e));
    })
    by false e = subst (λ (c : Bool). IsBucket key (words ++ w ∷ []) n b (if c then places ++ length words ∷ [] else places)) (sym e) (record {
      within = higher words w places old.within;
      holds = at_stays words w places old.within ∙ (old.holds ∙ (sym (append-nil (filter test words)) ∙ sym (kept false e)));
    })

abbrev pub Put : (n place : ℕ) → Option ℕ → List (List ℕ) → List (List ℕ) → Type 0
Put n place key old new = (b : ℕ) → slice_get new b ≡ option_map (λ ps. if in_bucket n b key then ps ++ place ∷ [] else ps) (slice_get old b)

pub placed_more : (key : EvidenceEvent → Option ℕ) (words : List EvidenceEvent) (w : EvidenceEvent) (old new : List (List ℕ)) → ArePlaced key words old → length new ≡ length old → Put (length old) (length words) (key w) old new → ArePlaced key (words ++ w ∷ []) new
placed_more key words w old new placed same put b places there = by (slice_get old b) refl
  where
    more : List ℕ → List ℕ
    more ps = if in_bucket (length old) b (key w) then ps ++ length words ∷ [] else ps

    by : (o : Option (List ℕ)) → slice_get old b ≡ o → IsBucket key (words ++ w ∷ []) (length new) b places
    by None e = absurd (none_is_some places (sym (put b ∙ ap (option_map more) e) ∙ there))
    by (Some ps) e =
        let is : more ps ≡ places = same_some (more ps) places (sym (put b ∙ ap (option_map more) e) ∙ there) in
        subst (λ (n : ℕ). IsBucket key (words ++ w ∷ []) n b places) (sym same) (subst (IsBucket key (words ++ w ∷ []) (length old) b) is (bucket_more key words w (length old) b ps (placed b ps e)))

-- no event yet
pub placed_none : (key : EvidenceEvent → Option ℕ) (buckets : List (List ℕ)) → All (λ (ps : List ℕ). ps ≡ []) buckets → ArePlaced key [] buckets
placed_none key buckets none b places there =
    subst (λ (ps : List ℕ). IsBucket key [] (length buckets) b ps) (sym (empty buckets none b places there)) (record { within = All-nil (λ p. p < 0); holds = refl })
  where
    empty : (bs : List (List ℕ)) → All (λ (ps : List ℕ). ps ≡ []) bs → (k : ℕ) (ps : List ℕ) → slice_get bs k ≡ Some ps → ps ≡ []
    empty [] all k ps e = absurd (none_is_some ps e)
    empty (x ∷ xs) all zero ps e = sym (same_some x ps e) ∙ All-head (λ (q : List ℕ). q ≡ []) x xs all
    empty (x ∷ xs) all (suc k) ps e = empty xs (All-tail (λ (q : List ℕ). q ≡ []) x xs all) k ps e

-- a place that is looked up
pub find_place : (q : EvidenceEvent → Bool) (words : List EvidenceEvent) (p : ℕ) (ps : List ℕ) → find q (at words p) ≡ None → find q (flat_map (at words) (p ∷ ps)) ≡ find q (flat_map (at words) ps)
find_place q words p ps none = by (slice_get words p) refl
  where
    by : (o : Option EvidenceEvent) → slice_get words p ≡ o → find q (one_or_none (slice_get words p) ++ flat_map (at words) ps) ≡ find q (flat_map (at words) ps)
    by None e = ap (λ (o : Option EvidenceEvent). find q (one_or_none o ++ flat_map (at words) ps)) e
    by (Some w) e = ap (λ (o : Option EvidenceEvent). find q (one_or_none o ++ flat_map (at words) ps)) e ∙ found_later q w (flat_map (at words) ps) (unfound (q w) (sym (ap (λ (o : Option EvidenceEvent). find q (one_or_none o)) e) ∙ none))
      where
        unfound : (b : Bool) → cond b (Some w) None ≡ None → b ≡ false
        unfound true h = absurd (none_is_some w (sym h))
        unfound false h = refl

pub found_place : (q : EvidenceEvent → Bool) (words : List EvidenceEvent) (p : ℕ) (ps : List ℕ) (x : EvidenceEvent) → find q (at words p) ≡ Some x → find q (flat_map (at words) (p ∷ ps)) ≡ Some x
found_place q words p ps x found = found_longer q (at words p) (flat_map (at words) ps) x found

-- where there is no event
get_past : (words : List EvidenceEvent) (p : ℕ) → length words ≤ p → slice_get words p ≡ None
get_past [] p past = refl
get_past (x ∷ xs) zero past = absurd (omega (arith, past))
get_past (x ∷ xs) (suc p) past = get_past xs p (omega (arith, past))

pub no_place : (items words : List EvidenceEvent) (p : ℕ) → length words ≤ p → items ≡ items ++ at words p
no_place items words p past = sym (ap (λ (o : Option EvidenceEvent). items ++ one_or_none o) (get_past words p past) ∙ append-nil items)
