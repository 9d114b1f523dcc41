use Rattle.std.proofs.Common.{◌≡◌, refl, sym, ap, ◌∙◌, ℕ, ◌<◌, Bool, true, false, ◌&&◌, nat_lt, List, [], ◌∷◌, ◌++◌, find, Some, None, arith}
use Rattle.std.proofs.lemmas.Bool.Decides.{nat_tests}
use Rattle.venue_rules.specs.declared.facts.Fact.{Fact}
use Rattle.venue_rules.specs.declared.facts.Fact.TheVariants.{Entered, Traded, Removed, Held, Unheld, Asked, Quoted, Withdrawn, Closed}
use Rattle.venue_rules.specs.declared.facts.Room.{Room}
use Rattle.venue_rules.specs.Facts.{rooms}
use Rattle.std.proofs.lemmas.List.Folds.{list_all-append}
use Rattle.rfq_room.specs.RoomStore.{are_listed, is_listed}

both : (b c : Bool) → (b && c) ≡ true → (b ≡ true) × (c ≡ true)
both true true h = (refl, refl)
both true false h = cc
both false c h = cc

same_room : (r a : Room) → Some a ≡ Some r → a ≡ r
same_room r a h = ap (λ x. elim x [ None ↦ a | Some y ↦ y ]) h

below : (x count : ℕ) → nat_lt x count ≡ true → x < count
below x count h = grind (arith, nat_tests)

-- a found room is in a listed instrument
pub find-listed : (count : ℕ) (p : Room → Bool) (fs : List Fact) (r : Room) → are_listed count fs ≡ true → find p (rooms fs) ≡ Some r → r.instrument < count
find-listed count p [] r h k = cc
find-listed count p (Entered e ∷ fs) r h k = find-listed count p fs r h k
find-listed count p (Traded t ∷ fs) r h k = find-listed count p fs r h k
find-listed count p (Removed e ∷ fs) r h k = find-listed count p fs r h k
find-listed count p (Held s ∷ fs) r h k = find-listed count p fs r h k
find-listed count p (Unheld u ∷ fs) r h k = find-listed count p fs r h k
find-listed count p (Asked a ∷ fs) r h k = asked count p a fs r (p a) refl (both (nat_lt a.instrument count) (are_listed count fs) h) k (find-listed count p fs r)
  where
    asked : (count : ℕ) (p : Room → Bool) (a : Room) (fs : List Fact) (r : Room) (b : Bool) → p a ≡ b → (nat_lt a.instrument count ≡ true) × (are_listed count fs ≡ true) → find p (rooms (Asked a ∷ fs)) ≡ Some r → (are_listed count fs ≡ true → find p (rooms fs) ≡ Some r → r.instrument < count) → r.instrument < count
    asked count p a fs r true e h k rest = let same : a ≡ r = same_room r a (rw e at k) in below r.instrument count (ap (λ (x : Room). nat_lt x.instrument count) (sym same) ∙ h.0)
    asked count p a fs r false e h k rest = rest h.1 (rw e at k)
find-listed count p (Quoted q ∷ fs) r h k = find-listed count p fs r h k
find-listed count p (Withdrawn w ∷ fs) r h k = find-listed count p fs r h k
find-listed count p (Closed c ∷ fs) r h k = find-listed count p fs r h k

pub listed_append : (count : ℕ) (fs gs : List Fact) → are_listed count fs ≡ true → are_listed count gs ≡ true → are_listed count (fs ++ gs) ≡ true
listed_append count fs gs h k = list_all-append (is_listed count) fs gs ∙ both_true (are_listed count fs) (are_listed count gs) h k
  where
    both_true : (b c : Bool) → b ≡ true → c ≡ true → (b && c) ≡ true
    both_true true true h k = refl
    both_true true false h k = k
    both_true false c h k = h
