use Rattle.std.proofs.Common.{◌≡◌, refl, sym, ap, ◌∙◌, ℕ, ◌≤◌, Bool, true, false, not, cond, ◌&&◌, ◌==◌, nat_lt, nat_le, List, [], ◌∷◌, find, filter, Option, Some, None, IsSome, if◌then◌else◌, arith, bytes_eq}
use Rattle.std.specs.List.{list_all}
use Rattle.std.proofs.lemmas.Bool.{eq-eqb}
use Rattle.std.proofs.lemmas.Bool.Decides.{nat_tests}
use Rattle.std.proofs.lemmas.Slice.Eq.{bytes_eq-Decides}
use Rattle.venue_rules.specs.declared.facts.Fact.{Fact}
use Rattle.venue_rules.specs.declared.facts.Fact.TheVariants.{Entered, Traded, Removed, Held, Unheld, Asked, Quoted, Withdrawn, Closed}
use Rattle.venue_rules.specs.declared.facts.HeldSide.{HeldSide}
use Rattle.venue_rules.specs.Facts.{held_sides, is_name}
use Rattle.venue_rules.specs.Delay.{due, earlier, earliest, find_held, held}
use Rattle.cross_delay.specs.Views.{stands}

-- A side that is due, or found, is among the held ones.

parts : (b c : Bool) → (b && c) ≡ true → (b ≡ true) × (c ≡ true)
parts true true h = (refl, refl)
parts true false h = cc
parts false c h = cc

both : (b c : Bool) → b ≡ true → c ≡ true → (b && c) ≡ true
both true true h k = refl
both true false h k = k
both false c h k = h

-- a property of all sides holds for the earliest and for the one found

pick : (c : Bool) (q : HeldSide → Bool) (h j k : HeldSide) → q h ≡ true → q j ≡ true → (if c then Some j else Some h) ≡ Some k → q k ≡ true
pick true q h j k qh qj e = let same : j ≡ k = cc in ap q (sym same) ∙ qj
pick false q h j k qh qj e = let same : h ≡ k = cc in ap q (sym same) ∙ qh

one_of : (q : HeldSide → Bool) (h k : HeldSide) (r : Option HeldSide) → q h ≡ true → ((j : HeldSide) → r ≡ Some j → q j ≡ true) → earlier h r ≡ Some k → q k ≡ true
one_of q h k None qh qr e = let same : h ≡ k = cc in ap q (sym same) ∙ qh
one_of q h k (Some j) qh qr e = pick (nat_lt j.due h.due) q h j k qh (qr j refl) e

earliest-passes : (q : HeldSide → Bool) (hs : List HeldSide) (k : HeldSide) → list_all q hs ≡ true → earliest hs ≡ Some k → q k ≡ true
earliest-passes q [] k all e = cc
earliest-passes q (h ∷ hs) k all e = let p : (q h ≡ true) × (list_all q hs ≡ true) = parts (q h) (list_all q hs) all in one_of q h k (earliest hs) p.0 (λ j. earliest-passes q hs j p.1) e

found_one : (b : Bool) (q : HeldSide → Bool) (h k : HeldSide) (r : Option HeldSide) → q h ≡ true → (r ≡ Some k → q k ≡ true) → cond b (Some h) r ≡ Some k → q k ≡ true
found_one true q h k r qh qr e = let same : h ≡ k = cc in ap q (sym same) ∙ qh
found_one false q h k r qh qr e = qr e

find-passes : (q n : HeldSide → Bool) (hs : List HeldSide) (k : HeldSide) → list_all q hs ≡ true → find n hs ≡ Some k → q k ≡ true
find-passes q n [] k all e = cc
find-passes q n (h ∷ hs) k all e = let p : (q h ≡ true) × (list_all q hs ≡ true) = parts (q h) (list_all q hs) all in found_one (n h) q h k (find n hs) p.0 (find-passes q n hs k p.1) e

-- a property of all sides holds for those filtered, and so does the filter

kept : (b : Bool) (q : HeldSide → Bool) (h : HeldSide) (hs : List HeldSide) → q h ≡ true → list_all q hs ≡ true → list_all q (cond b (h ∷ hs) hs) ≡ true
kept true q h hs qh qs = both (q h) (list_all q hs) qh qs
kept false q h hs qh qs = qs

filter-all : (q r : HeldSide → Bool) (hs : List HeldSide) → list_all q hs ≡ true → list_all q (filter r hs) ≡ true
filter-all q r [] all = refl
filter-all q r (h ∷ hs) all = let p : (q h ≡ true) × (list_all q hs ≡ true) = parts (q h) (list_all q hs) all in kept (r h) q h (filter r hs) p.0 (filter-all q r hs p.1)

kept_own : (b : Bool) (q : HeldSide → Bool) (h : HeldSide) (hs : List HeldSide) → q h ≡ b → list_all q hs ≡ true → list_all q (cond b (h ∷ hs) hs) ≡ true
kept_own true q h hs qh qs = both (q h) (list_all q hs) qh qs
kept_own false q h hs qh qs = qs

filter-own : (q : HeldSide → Bool) (hs : List HeldSide) → list_all q (filter q hs) ≡ true
filter-own q [] = refl
filter-own q (h ∷ hs) = kept_own (q h) q h (filter q hs) refl (filter-own q hs)

-- a property of all facts holds for the sides that they hold

sides-all : (p : Fact → Bool) (fs : List Fact) → list_all p fs ≡ true → list_all (λ h. p (Held h)) (held_sides fs) ≡ true
sides-all p [] all = refl
sides-all p (Held h ∷ fs) all = let b : (p (Held h) ≡ true) × (list_all p fs ≡ true) = parts (p (Held h)) (list_all p fs) all in both (p (Held h)) (list_all (λ k. p (Held k)) (held_sides fs)) b.0 (sides-all p fs b.1)
sides-all p (Entered e ∷ fs) all = sides-all p fs (parts (p (Entered e)) (list_all p fs) all).1
sides-all p (Traded t ∷ fs) all = sides-all p fs (parts (p (Traded t)) (list_all p fs) all).1
sides-all p (Removed r ∷ fs) all = sides-all p fs (parts (p (Removed r)) (list_all p fs) all).1
sides-all p (Unheld u ∷ fs) all = sides-all p fs (parts (p (Unheld u)) (list_all p fs) all).1
sides-all p (Asked r ∷ fs) all = sides-all p fs (parts (p (Asked r)) (list_all p fs) all).1
sides-all p (Quoted q ∷ fs) all = sides-all p fs (parts (p (Quoted q)) (list_all p fs) all).1
sides-all p (Withdrawn w ∷ fs) all = sides-all p fs (parts (p (Withdrawn w)) (list_all p fs) all).1
sides-all p (Closed c ∷ fs) all = sides-all p fs (parts (p (Closed c)) (list_all p fs) all).1

held-all : (p : Fact → Bool) (fs : List Fact) → list_all p fs ≡ true → list_all (λ h. p (Held h)) (held fs) ≡ true
held-all p fs all = filter-all (λ h. p (Held h)) (stands fs) (held_sides fs) (sides-all p fs all)

pub due-fact : (p : Fact → Bool) (fs : List Fact) (t : ℕ) (k : HeldSide) → list_all p fs ≡ true → due fs t ≡ Some k → p (Held k) ≡ true
due-fact p fs t k all e = earliest-passes (λ h. p (Held h)) (filter (λ h. nat_le h.due t) (held fs)) k (filter-all (λ h. p (Held h)) (λ h. nat_le h.due t) (held fs) (held-all p fs all)) e

pub found-fact : (p : Fact → Bool) (fs : List Fact) (who : ℕ) (id : List ℕ) (k : HeldSide) → list_all p fs ≡ true → find_held fs who id ≡ Some k → p (Held k) ≡ true
found-fact p fs who id k all e = find-passes (λ h. p (Held h)) (λ h. is_name who id h.order.who h.order.id) (held fs) k (held-all p fs all) e

-- the side that is due is past its moment

at_most : (a b : ℕ) → nat_le a b ≡ true → a ≤ b
at_most a b h = grind (arith, nat_tests)

pub due-passed : (fs : List Fact) (t : ℕ) (k : HeldSide) → due fs t ≡ Some k → k.due ≤ t
due-passed fs t k e = at_most k.due t (earliest-passes (λ h. nat_le h.due t) (filter (λ h. nat_le h.due t) (held fs)) k (filter-own (λ h. nat_le h.due t) (held fs)) e)

-- and is found by its name

none_passes : (b : Bool) (n : HeldSide → Bool) (h : HeldSide) (r : Option HeldSide) (rest : Bool) → n h ≡ b → cond b (Some h) r ≡ None → (r ≡ None → rest ≡ true) → (not (n h) && rest) ≡ true
none_passes true n h r rest nh e more = cc
none_passes false n h r rest nh e more = both (not (n h)) rest (ap not nh) (more e)

find-none : (n : HeldSide → Bool) (hs : List HeldSide) → find n hs ≡ None → list_all (λ h. not (n h)) hs ≡ true
find-none n [] e = refl
find-none n (h ∷ hs) e = none_passes (n h) n h (find n hs) (list_all (λ k. not (n k)) hs) refl e (find-none n hs)

some-of : (r : Option HeldSide) → (r ≡ None → ⊥) → IsSome r
some-of (Some h) f = refl
some-of None f = absurd (f refl)

own-name : (who : ℕ) (id : List ℕ) → is_name who id who id ≡ true
own-name who id = both (who == who) (bytes_eq id id) (eq-eqb who who refl) ((bytes_eq-Decides id id).1 refl)

never : (b : Bool) → b ≡ true → not b ≡ true → ⊥
never true h k = cc
never false h k = cc

pub due-named : (fs : List Fact) (t : ℕ) (k : HeldSide) → due fs t ≡ Some k → IsSome (find_held fs k.order.who k.order.id)
due-named fs t k e =
    let n : HeldSide → Bool = λ h. is_name k.order.who k.order.id h.order.who h.order.id in
    some-of (find n (held fs)) (λ none. never (n k) (own-name k.order.who k.order.id)
    (earliest-passes (λ h. not (n h)) (filter (λ h. nat_le h.due t) (held fs)) k (filter-all (λ h. not (n h)) (λ h. nat_le h.due t) (held fs) (find-none n (held fs) none)) e))
