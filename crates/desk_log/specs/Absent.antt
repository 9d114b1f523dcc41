-- Which of the messages that are owed are in a log, in order, and which are not.
--
-- The messages of the log are taken one after another. Each is the first with its text of what is owed behind those
-- found before it; what is owed in between is not in the log there. A message of the log with the text of none of these
-- is left over. So what is found is, in order, what is not left over of the log (`FoundAreThere`). Where the log has
-- nothing but some of what is owed, in order, nothing is left over (`PartIsFound`).
use Rattle.std.specs.Prelude.{◌≡◌, ℕ, ◌+◌, ◌⊎◌, Bool, true, false, List, [], ◌∷◌, ◌++◌, length, drop, replicate, Option, Some, None, bytes_eq, if◌then◌else◌}
use Rattle.std.specs.List.{list_all, list_any}
use Rattle.desk_log.specs.declared.owed.Owed.{Owed}
use Rattle.desk_log.specs.Comparing.{is_owed, owed_texts}
use Rattle.desk_log.specs.Numbered.{Logged, texts_in}

-- the place, counted from k, of the first message that is owed with this text
abbrev pub place_from : ℕ → List ℕ → List Owed → Option ℕ
place_from k text [] = None
place_from k text (o ∷ os) = if bytes_eq o.text.items text then Some k else place_from (k + 1) text os

-- Of what is owed, each message that is in the log, by the texts of the log.

abbrev pub found_by : Option ℕ → (List Owed → List Bool) → List Owed → List Bool
found_by None rest os = rest os
found_by (Some k) rest os = replicate k false ++ true ∷ rest (drop (k + 1) os)

abbrev pub found_in : List (List ℕ) → List Owed → List Bool
found_in [] os = replicate (length os) false
found_in (t ∷ ts) os = found_by (place_from 0 t os) (found_in ts) os

-- Of the log, each message that is one of these.

abbrev pub taken_by : Option ℕ → (List Owed → List Bool) → List Owed → List Bool
taken_by None rest os = false ∷ rest os
taken_by (Some k) rest os = true ∷ rest (drop (k + 1) os)

abbrev pub taken_in : List (List ℕ) → List Owed → List Bool
taken_in [] os = []
taken_in (t ∷ ts) os = taken_by (place_from 0 t os) (taken_in ts) os

-- the places, counted from k, of what is not found
abbrev pub places_from : ℕ → List Bool → List ℕ
places_from k [] = []
places_from k (f ∷ fs) = (if f then [] else k ∷ []) ++ places_from (k + 1) fs

-- What is owed and is not in the log in order, by its places, counted from 0.
abbrev pub absent_in : List ℕ → List Logged → List Owed → List ℕ
absent_in log once os = places_from 0 (found_in (texts_in log once) os)

-- those that are said to be
abbrev pub picked : {X : Type 0} → List Bool → List X → List X
picked [] xs = []
picked (b ∷ bs) [] = []
picked (b ∷ bs) (x ∷ xs) = if b then x ∷ picked bs xs else picked bs xs

abbrev pub others : {X : Type 0} → List Bool → List X → List X
others [] xs = []
others (b ∷ bs) [] = []
others (b ∷ bs) (x ∷ xs) = if b then others bs xs else x ∷ others bs xs

-- the messages of the log that are left over
abbrev pub left_in : List ℕ → List Logged → List Owed → List Logged
left_in log once os = others (taken_in (texts_in log once) os) once

-- the first of these with the text of a message
abbrev pub first_left : List ℕ → List Logged → Owed → Option Logged
first_left log [] o = None
first_left log (l ∷ ls) o = if is_owed log l.1 o then Some l else first_left log ls o

-- Of each message that is owed, and of each of the log, it is known. What is found of the one is, in order, what is not
-- left over of the other.
abbrev pub FoundAreThere : Type 0
FoundAreThere = (ts : List (List ℕ)) (os : List Owed)
    → (length (found_in ts os) ≡ length os) × (length (taken_in ts os) ≡ length ts) × (owed_texts (picked (found_in ts os) os) ≡ picked (taken_in ts os) ts)

-- some of these, in order
abbrev pub IsPart : List (List ℕ) → List Owed → Type 0
IsPart [] os = Unit {0}
IsPart (t ∷ ts) [] = ⊥
IsPart (t ∷ ts) (o ∷ os) = ((t ≡ o.text.items) × IsPart ts os) ⊎ IsPart (t ∷ ts) os

-- Of a log that lost messages and has no other, each message is found: no more is said to be missing than it lost.
abbrev pub PartIsFound : Type 0
PartIsFound = (ts : List (List ℕ)) (os : List Owed) → IsPart ts os → list_all (λ b. b) (taken_in ts os) ≡ true

-- Where no message that is left over is named, none has the text.
abbrev pub NoneIsLeft : Type 0
NoneIsLeft = (log : List ℕ) (ls : List Logged) (o : Owed) → first_left log ls o ≡ None → list_any (λ (l : Logged). is_owed log l.1 o) ls ≡ false
