-- Two chains with one digest, compared from their ends.
use Rattle.std.proofs.Common.{◌≡◌, ◌≢◌, ℕ, ◌+◌, ◌-◌, ◌<◌, Bool, true, false, ◌⊎◌, List, [], ◌∷◌, ◌++◌, length, get_or, reverse, refl, sym, ap, subst, inl, inr, ◌∙◌, arith}
use Rattle.std.specs.Prelude.{All, Contains, Decides, IsTrue, ◌==◌, bytes_eq}
use Rattle.std.proofs.lemmas.Grind.{reverse_onto}
use Rattle.std.proofs.lemmas.List.{get_or-reverse, length-reverse, reverse-reverse}
use Rattle.std.proofs.lemmas.List.Elements.{All-head, All-tail, All-take, Contains-append_left, Contains-append_right}
use Rattle.std.proofs.lemmas.List.Sums.{fold-append}
use Rattle.std.proofs.lemmas.Slice.Eq.{bytes_eq-Decides}
use Rattle.sha2.proofs.Facts256.{length-sha256}
use Rattle.venue_rules.specs.declared.trail.TrailRow.{TrailRow}
use Rattle.trail_digest.specs.Trail.{Trail}
use Rattle.trail_digest.specs.Chain.{chain, link, link_text, links, start_of, start_text}
use Rattle.trail_digest.specs.Head.{up_to}
use Rattle.trail_digest.specs.Laws.{Collision, FitsRow, FitsTrail, ItsDigestIsItsBeginning, OneDigestIsOneTrail, texts, texts_from}
use Rattle.trail_digest.proofs.Encoding.{link_injective, start_injective}

either : {P : Type 0} (r : Bool) → Decides r P → P ⊎ (P → ⊥)
either true d = inl (d.0 refl)
either false d = inr (λ p. let e = d.1 p in cc)

decide : (xs ys : List ℕ) → (xs ≡ ys) ⊎ (xs ≢ ys)
decide xs ys = either (bytes_eq xs ys) (bytes_eq-Decides xs ys)

-- the digest behind rows that are given last first
abbrev back : List ℕ → List TrailRow → List ℕ
back h [] = h
back h (r ∷ rs) = link (back h rs) r

links-back : (h : List ℕ) (rs : List TrailRow) → links h (reverse rs) ≡ back h rs
links-back h [] = refl
links-back h (r ∷ rs) =
    ap (links h) (reverse_onto rs r []) ∙ fold-append link h (reverse rs) (r ∷ []) ∙ ap (λ v. link v r) (links-back h rs)

length-back : (t : Trail) (rs : List TrailRow) → length (back (start_of t) rs) ≡ 32
length-back t [] = length-sha256 (start_text t.participants t.instruments t.delays)
length-back t (r ∷ rs) = length-sha256 (link_text (back (start_of t) rs) r)

texts-append : (h : List ℕ) (rs more : List TrailRow) → texts_from h (rs ++ more) ≡ texts_from h rs ++ texts_from (links h rs) more
texts-append h [] more = refl
texts-append h (r ∷ rs) more = ap (λ ts. link_text h r ∷ ts) (texts-append (link h r) rs more)

-- a trail with other rows, given last first
abbrev cut : Trail → List TrailRow → Trail
cut t rs = record { participants = t.participants; instruments = t.instruments; delays = t.delays; rows = reverse rs }

abbrev first_text : Trail → List ℕ
first_text t = start_text t.participants t.instruments t.delays

abbrev last_text : Trail → List TrailRow → TrailRow → List ℕ
last_text t rs r = link_text (back (start_of t) rs) r

texts-more : (t : Trail) (r : TrailRow) (rs : List TrailRow) → texts (cut t (r ∷ rs)) ≡ texts (cut t rs) ++ last_text t rs r ∷ []
texts-more t r rs =
    let turned : texts_from (start_of t) (reverse (r ∷ rs)) ≡ texts_from (start_of t) (reverse rs ++ r ∷ []) = ap (texts_from (start_of t)) (reverse_onto rs r []) in
    let ended : texts_from (links (start_of t) (reverse rs)) (r ∷ []) ≡ last_text t rs r ∷ [] = ap (λ h. link_text h r ∷ []) (links-back (start_of t) rs) in
    ap (λ ts. first_text t ∷ ts) (turned ∙ texts-append (start_of t) (reverse rs) (r ∷ []) ∙ ap (λ ts. texts_from (start_of t) (reverse rs) ++ ts) ended)

hashed_first : (t : Trail) (rs : List TrailRow) → Contains (texts (cut t rs)) (first_text t)
hashed_first t rs = (0, omega arith, refl)

hashed_last : (t : Trail) (r : TrailRow) (rs : List TrailRow) → Contains (texts (cut t (r ∷ rs))) (last_text t rs r)
hashed_last t r rs =
    let P : List (List ℕ) → Type 0 = λ ts. Contains ts (last_text t rs r) in
    subst P (sym (texts-more t r rs)) (Contains-append_right (texts (cut t rs)) (last_text t rs r ∷ []) (last_text t rs r) (0, omega arith, refl))

hashed_more : (t : Trail) (r : TrailRow) (rs : List TrailRow) (text : List ℕ) → Contains (texts (cut t rs)) text → Contains (texts (cut t (r ∷ rs))) text
hashed_more t r rs text h =
    let P : List (List ℕ) → Type 0 = λ ts. Contains ts text in
    subst P (sym (texts-more t r rs)) (Contains-append_left (texts (cut t rs)) (last_text t rs r ∷ []) text h)

collision_more : (a b : Trail) (x y : TrailRow) (xs ys : List TrailRow) → Collision (cut a xs) (cut b ys) → Collision (cut a (x ∷ xs)) (cut b (y ∷ ys))
collision_more a b x y xs ys c = record {
  one = c.one;
  other = c.other;
  differ = c.differ;
  same = c.same;
  hashed = hashed_more a x xs c.one c.hashed;
  hashed_other = hashed_more b y ys c.other c.hashed_other;
}

-- the same files and delays
record Begins (a b : Trail) : Type 0 where
  participants : a.participants ≡ b.participants
  instruments : a.instruments ≡ b.instruments
  delays : a.delays ≡ b.delays

begins : (a b : Trail) → FitsTrail a → FitsTrail b → first_text a ≡ first_text b → Begins a b
begins a b fa fb e =
    let all = start_injective a.participants a.instruments a.delays b.participants b.instruments b.delays fa.participants fb.participants fa.instruments fb.instruments fa.count fb.count fa.delays fb.delays e in
    record { participants = all.0; instruments = all.1; delays = all.2 }

start_is_no_link : (t : Trail) (h : List ℕ) (r : TrailRow) → first_text t ≡ link_text h r → ⊥
start_is_no_link t h r e =
    let P : List ℕ → Type 0 = λ bytes. IsTrue (get_or bytes 0 0 == 116) in
    let same : false ≡ true = subst P e refl in
    cc

compared : (a b : Trail) (xs ys : List TrailRow) → FitsTrail a → FitsTrail b → All FitsRow xs → All FitsRow ys → back (start_of a) xs ≡ back (start_of b) ys → (Begins a b × (xs ≡ ys)) ⊎ Collision (cut a xs) (cut b ys)
compared a b [] [] fa fb hx hy e =
    elim (decide (first_text a) (first_text b)) [
      | inl s ↦ inl (begins a b fa fb s, refl)
      | inr n ↦ inr (record { one = first_text a; other = first_text b; differ = n; same = e; hashed = hashed_first a []; hashed_other = hashed_first b [] })
    ]
compared a b [] (y ∷ ys) fa fb hx hy e =
    inr (record { one = first_text a; other = last_text b ys y; differ = start_is_no_link a (back (start_of b) ys) y; same = e; hashed = hashed_first a []; hashed_other = hashed_last b y ys })
compared a b (x ∷ xs) [] fa fb hx hy e =
    inr (record { one = last_text a xs x; other = first_text b; differ = λ s. start_is_no_link b (back (start_of a) xs) x (sym s); same = e; hashed = hashed_last a x xs; hashed_other = hashed_first b [] })
compared a b (x ∷ xs) (y ∷ ys) fa fb hx hy e =
    elim (decide (last_text a xs x) (last_text b ys y)) [
      | inl s ↦
          let parted = link_injective (back (start_of a) xs) (back (start_of b) ys) x y (length-back a xs ∙ sym (length-back b ys)) (All-head FitsRow x xs hx) (All-head FitsRow y ys hy) s in
          elim (compared a b xs ys fa fb (All-tail FitsRow x xs hx) (All-tail FitsRow y ys hy) parted.0) [
            | inl same ↦ inl (same.0, ap (λ r. r ∷ xs) parted.1 ∙ ap (λ rs. y ∷ rs) same.1)
            | inr c ↦ inr (collision_more a b x y xs ys c)
          ]
      | inr n ↦ inr (record { one = last_text a xs x; other = last_text b ys y; differ = n; same = e; hashed = hashed_last a x xs; hashed_other = hashed_last b y ys })
    ]

all_turned : (rs : List TrailRow) → All FitsRow rs → All FitsRow (reverse rs)
all_turned rs h = λ k d l.
    let inside : k < length rs = let e = length-reverse rs in omega arith in
    subst FitsRow (sym (get_or-reverse rs k d inside)) (h (length rs - 1 - k) d (omega arith))

uncut : (t : Trail) → cut t (reverse t.rows) ≡ t
uncut t = ap (λ rs. let whole : Trail = record { participants = t.participants; instruments = t.instruments; delays = t.delays; rows = rs } in whole) (reverse-reverse t.rows)

same_trails : (a b : Trail) → Begins a b → a.rows ≡ b.rows → a ≡ b
same_trails a b s e =
    let whole : List ℕ → List ℕ → List ℕ → List TrailRow → Trail = λ p i d rs. record { participants = p; instruments = i; delays = d; rows = rs } in
    ap (λ p. whole p a.instruments a.delays a.rows) s.participants
    ∙ ap (λ i. whole b.participants i a.delays a.rows) s.instruments
    ∙ ap (λ d. whole b.participants b.instruments d a.rows) s.delays
    ∙ ap (λ rs. whole b.participants b.instruments b.delays rs) e

chain_back : (t : Trail) → chain t ≡ back (start_of t) (reverse t.rows)
chain_back t = sym (ap (links (start_of t)) (reverse-reverse t.rows)) ∙ links-back (start_of t) (reverse t.rows)

pub one_digest : OneDigestIsOneTrail
one_digest a b fa fb e =
    elim (compared a b (reverse a.rows) (reverse b.rows) fa fb (all_turned a.rows fa.rows) (all_turned b.rows fb.rows) (sym (chain_back a) ∙ e ∙ chain_back b)) [
      | inl same ↦ inl (same_trails a b same.0 (sym (reverse-reverse a.rows) ∙ ap reverse same.1 ∙ reverse-reverse b.rows))
      | inr c ↦
          let L : Trail → Type 0 = λ t. Collision t (cut b (reverse b.rows)) in
          let R : Trail → Type 0 = λ t. Collision a t in
          inr (subst R (uncut b) (subst L (uncut a) c))
    ]

-- the first rows of a trail that fits fit too
fits_first : (n : ℕ) (t : Trail) → FitsTrail t → FitsTrail (up_to n t)
fits_first n t fits = record {
  participants = fits.participants;
  instruments = fits.instruments;
  count = fits.count;
  delays = fits.delays;
  rows = All-take FitsRow n t.rows fits.rows;
}

pub one_beginning : ItsDigestIsItsBeginning
one_beginning a b n fits fits_too same = one_digest a (up_to n b) fits (fits_first n b fits_too) same
