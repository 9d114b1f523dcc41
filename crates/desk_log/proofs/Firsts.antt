-- The first message of each place.
use Rattle.std.proofs.Common.{◌≡◌, ℕ, zero, suc, ◌+◌, ◌<◌, Bool, true, false, List, [], ◌∷◌, ◌++◌, length, take, get_or, Option, None, Some, cond, refl, sym, ap, ◌∙◌, arith}
use Rattle.std.proofs.lemmas.List.{take_more}
use Rattle.std.proofs.lemmas.Cmp.{on_total, then_total}
use Rattle.std.proofs.lemmas.Map.Lookups.{CmpEqualImpliesEq, exact_pairs, exact_unsigned}
use Rattle.std.specs.BTreeMap.{is_at}
use Rattle.std.specs.Cmp.{IsTotalOrder, eq_by_cmp_equiv, nat_cmp_total}
use Rattle.std.specs.Ordering.{nat_cmp, is_eq}
use Rattle.std.specs.declared.cmp.Ordering.{Ordering}
use Rattle.std.specs.declared.cmp.Ordering.TheVariants.{Less, Equal, Greater}
use Rattle.desk_log.specs.declared.frames.Span.{Span}
use Rattle.desk_log.specs.declared.numbered.Place.{Place}
use Rattle.desk_log.specs.Numbered.{Logged}
use Rattle.desk_log.specs.Once.{found_at, place_cmp, then_at}

-- places that compare alike are one
pub exact_places : CmpEqualImpliesEq place_cmp
exact_places a b h = ap (λ (p : ℕ × ℕ). record { era = p.0; number = p.1 }) (exact_pairs nat_cmp nat_cmp exact_unsigned exact_unsigned (a.era, a.number) (b.era, b.number) h)

pub places_total : IsTotalOrder place_cmp
places_total = then_total (on_total (λ p. p.era) nat_cmp_total) (on_total (λ p. p.number) nat_cmp_total)

-- one message more
pub found_push : (p : Place) (ls : List Logged) (l : Logged) → found_at p (ls ++ l ∷ []) ≡ then_at p (found_at p ls) l.0 l.1
found_push p [] l = refl
found_push p (x ∷ ls) l = by (is_at (place_cmp p) x.0) (found_push p ls l)
  where
    by : (b : Bool) → found_at p (ls ++ l ∷ []) ≡ then_at p (found_at p ls) l.0 l.1 → cond b (Some x.1) (found_at p (ls ++ l ∷ [])) ≡ then_at p (cond b (Some x.1) (found_at p ls)) l.0 l.1
    by true h = refl
    by false h = h

equal_of : (o : Ordering) → is_eq o ≡ true → o ≡ Equal
equal_of Less h = absurd (cc)
equal_of Equal h = refl
equal_of Greater h = absurd (cc)

one_place : (p q : Place) → is_at (place_cmp p) q ≡ true → p ≡ q
one_place p q h = exact_places p q (equal_of (place_cmp p q) h)

-- there was a message of the place
pub unchanged : (f : Place → Option Span) (place : Place) (span had : Span) → f place ≡ Some had → (p : Place) → f p ≡ then_at p (f p) place span
unchanged f place span had is p = by (f p) refl (is_at (place_cmp p) place) refl
  where
    by : (o : Option Span) → f p ≡ o → (b : Bool) → is_at (place_cmp p) place ≡ b → o ≡ then_at p o place span
    by (Some first) e b h = refl
    by None e false h = rw h refl
    by None e true h =
        let there : Some had ≡ None = sym is ∙ ap f (sym (one_place p place h)) ∙ e in
        absurd (cc)

-- there was none
pub inserted : (f g : Place → Option Span) (place : Place) (span : Span) → f place ≡ None → ((p : Place) → g p ≡ cond (is_at (place_cmp place) p) (Some span) (f p)) → (p : Place) → g p ≡ then_at p (f p) place span
inserted f g place span none updates p =
    updates p ∙ ap (λ (b : Bool). cond b (Some span) (f p)) ((eq_by_cmp_equiv places_total).symm place p) ∙ by (f p) refl (is_at (place_cmp p) place) refl
  where
    by : (o : Option Span) → f p ≡ o → (b : Bool) → is_at (place_cmp p) place ≡ b → cond (is_at (place_cmp p) place) (Some span) o ≡ then_at p o place span
    by (Some first) e false h = rw h refl
    by (Some first) e true h =
        let there : Some first ≡ None = sym e ∙ ap f (one_place p place h) ∙ none in
        absurd (cc)
    by None e b h = refl

-- the messages so far, and one more
pub first_more : (logged : List Logged) (i : ℕ) (l : Logged) (f g : Place → Option Span) → i < length logged → l ≡ get_or logged i l → ((p : Place) → f p ≡ found_at p (take i logged)) → ((p : Place) → g p ≡ then_at p (f p) l.0 l.1)
    → (p : Place) → g p ≡ found_at p (take (i + 1) logged)
first_more logged i l f g low at so_far step p =
    step p ∙ ap (λ (o : Option Span). then_at p o l.0 l.1) (so_far p) ∙ sym (found_push p (take i logged) l)
    ∙ ap (found_at p) (sym (take_more logged i l low ∙ ap (λ (x : Logged). take i logged ++ x ∷ []) (sym at)))

-- whatever stands for what is past the end
get_same : (ls : List Logged) (i : ℕ) (d e : Logged) → i < length ls → get_or ls i d ≡ get_or ls i e
get_same [] i d e low = absurd (omega arith)
get_same (x ∷ ls) zero d e low = refl
get_same (x ∷ ls) (suc i) d e low = get_same ls i d e (omega arith)

pub first_more_at : (logged : List Logged) (i : ℕ) (d : Logged) (f g : Place → Option Span) → i < length logged → ((p : Place) → f p ≡ found_at p (take i logged))
    → ((p : Place) → g p ≡ then_at p (f p) (get_or logged i d).0 (get_or logged i d).1) → (p : Place) → g p ≡ found_at p (take (i + 1) logged)
first_more_at logged i d f g low so_far step = first_more logged i (get_or logged i d) f g low (get_same logged i d (get_or logged i d) low) so_far step
