use Rattle.std.proofs.Common.{◌≡◌, refl, sym, ap, ◌∙◌, ℕ, ◌<◌, Bool, true, false, nat_lt, List, [], ◌∷◌, ◌++◌, length, find, filter_map, map, Option, Some, None, IfSome, option_map, cond, arith}
use Rattle.std.specs.List.{cons_option, list_all, position_or_len}
use Rattle.std.proofs.lemmas.Bool.Decides.{nat_tests}
use Rattle.std.proofs.lemmas.List.Folds.{list_all-append}
use Rattle.fix_dictionary.specs.declared.messages.Party.{Party}
use Rattle.std.specs.Prelude.{bytes_eq}
use Rattle.participants.specs.ParticipantFile.{ParticipantFile}
use Rattle.participants.specs.Relations.{find_participant}
use Rattle.venue_rules.specs.declared.facts.Fact.{Fact}
use Rattle.venue_rules.specs.declared.facts.Fact.TheVariants.{Entered, Traded, Removed, Held, Unheld, Asked, Quoted, Withdrawn, Closed}
use Rattle.venue_rules.specs.declared.facts.Room.{Room}
use Rattle.venue_rules.specs.Facts.{rooms}
use Rattle.rfq_room.specs.Contents.{Contents}
use Rattle.rfq_room.specs.RoomStore.{are_listed, is_listed}
use Rattle.rfq_room.specs.Steps.{IsPlanOf, Nothing}
use Rattle.rfq_handler.specs.Known.{are_known, is_known}
use Rattle.rfq_handler.specs.Read.{first_room}
use Rattle.rfq_handler.proofs.Lists.{both, both_true, same_some}

pub below : (x count : ℕ) → nat_lt x count ≡ true → x < count
below x count h = grind (arith, nat_tests)

-- no facts
pub quiet-made : (rooms : Contents) (added : List Fact) → added ≡ [] → IsPlanOf rooms added
quiet-made rooms added e = record { step = Nothing; allowed = tt; made = e; headroom = rw e (omega arith) }

pub quiet-listed : (count : ℕ) (added : List Fact) → added ≡ [] → are_listed count added ≡ true
quiet-listed count added e = ap (are_listed count) e

pub quiet-known : (count : ℕ) (added : List Fact) → added ≡ [] → are_known count added ≡ true
quiet-known count added e = ap (are_known count) e

-- a room that a plan opens is in a listed instrument
pub opened-listed : (count : ℕ) (fs : List Fact) (r : Room) → are_listed count fs ≡ true → Some r ≡ first_room fs → r.instrument < count
opened-listed count [] r h k = cc
opened-listed count (Asked a ∷ fs) r h k = below r.instrument count (ap (λ (x : Room). nat_lt x.instrument count) (same_some r a k) ∙ (both (nat_lt a.instrument count) (are_listed count fs) h).0)
opened-listed count (f ∷ fs) r h k = cc

-- and so is a found room
pub find-listed : (count : ℕ) (p : Room → Bool) (fs : List Fact) (r : Room) → are_listed count fs ≡ true → find p (rooms fs) ≡ Some r → r.instrument < count
find-listed count p [] r h k = cc
find-listed count p (Asked a ∷ fs) r h k = asked count p a fs r (p a) refl (both (nat_lt a.instrument count) (are_listed count fs) h) k (find-listed count p fs r)
  where
    asked : (count : ℕ) (p : Room → Bool) (a : Room) (fs : List Fact) (r : Room) (b : Bool) → p a ≡ b → (nat_lt a.instrument count ≡ true) × (are_listed count fs ≡ true) → find p (rooms (Asked a ∷ fs)) ≡ Some r → (are_listed count fs ≡ true → find p (rooms fs) ≡ Some r → r.instrument < count) → r.instrument < count
    asked count p a fs r true e h k rest = let same : a ≡ r = same_some a r (rw e at k) in below r.instrument count (ap (λ (x : Room). nat_lt x.instrument count) (sym same) ∙ h.0)
    asked count p a fs r false e h k rest = rest h.1 (rw e at k)
find-listed count p (Entered e ∷ fs) r h k = find-listed count p fs r h k
find-listed count p (Traded t ∷ fs) r h k = find-listed count p fs r h k
find-listed count p (Removed e ∷ fs) r h k = find-listed count p fs r h k
find-listed count p (Held s ∷ fs) r h k = find-listed count p fs r h k
find-listed count p (Unheld u ∷ fs) r h k = find-listed count p fs r h k
find-listed count p (Quoted q ∷ fs) r h k = find-listed count p fs r h k
find-listed count p (Withdrawn w ∷ fs) r h k = find-listed count p fs r h k
find-listed count p (Closed c ∷ fs) r h k = find-listed count p fs r h k

-- the recipients of a request are in the file
pub places-known : (file : ParticipantFile) (ps : List Party) → list_all (λ who. nat_lt who (length file.names)) (filter_map (λ r. r) (map (λ p. find_participant file p.id) ps)) ≡ true
places-known file [] = refl
places-known file (p ∷ ps) = one (nat_lt (position_or_len (bytes_eq p.id) file.names) (length file.names)) (length file.names) (position_or_len (bytes_eq p.id) file.names) (filter_map (λ r. r) (map (λ p. find_participant file p.id) ps)) refl (places-known file ps)
  where
    one : (b : Bool) (n k : ℕ) (rest : List ℕ) → nat_lt k n ≡ b → list_all (λ who. nat_lt who n) rest ≡ true → list_all (λ who. nat_lt who n) (cons_option (cond b (Some k) None) rest) ≡ true
    one true n k rest e h = both_true (nat_lt k n) (list_all (λ who. nat_lt who n) rest) e h
    one false n k rest e h = h

-- a property of each possible room holds for the one found
pub if-listed : {X : Type 0} (f : X → Room) (x : Option X) (count : ℕ) → ((r : Room) → option_map f x ≡ Some r → r.instrument < count) → IfSome x (λ y. (f y).instrument < count)
if-listed f None count h = tt
if-listed f (Some y) count h = h (f y) refl

-- appended facts keep both

pub listed_append : (count : ℕ) (fs gs : List Fact) → are_listed count fs ≡ true → are_listed count gs ≡ true → are_listed count (fs ++ gs) ≡ true
listed_append count fs gs h k = list_all-append (is_listed count) fs gs ∙ both_true (are_listed count fs) (are_listed count gs) h k

pub known_append : (count : ℕ) (fs gs : List Fact) → are_known count fs ≡ true → are_known count gs ≡ true → are_known count (fs ++ gs) ≡ true
known_append count fs gs h k = list_all-append (is_known count) fs gs ∙ both_true (are_known count fs) (are_known count gs) h k

pub ruleset appends = (listed_append, known_append)
