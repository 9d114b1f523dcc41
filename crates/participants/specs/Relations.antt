use Rattle.std.specs.Prelude.{◌≡◌, ℕ, Bool, true, not, ◌&&◌, ◌||◌, ◌==◌, List, [], Contains, slice_index_or, position, Option, bytes_eq}
use Rattle.std.specs.List.{list_any}
use Rattle.participants.specs.ParticipantFile.{ParticipantFile}

-- the participant of this name, by its place
abbrev pub find_participant : ParticipantFile → List ℕ → Option ℕ
find_participant file name = position (bytes_eq name) file.names

-- a participant's name
abbrev pub name_of : ParticipantFile → ℕ → List ℕ
name_of file who = slice_index_or file.names who []

-- one of the pairs is these two, in either order
abbrev pub is_related : List (ℕ × ℕ) → ℕ → ℕ → Bool
is_related pairs a b = list_any (λ p. (p.0 == a && p.1 == b) || (p.0 == b && p.1 == a)) pairs

-- the participant file lists the two: one of them is an affiliate of the other, or controls it (17 CFR 37.9(a)(3))
abbrev pub related : ParticipantFile → ℕ → ℕ → Bool
related file a b = is_related file.pairs a b

-- two different participants that are not related
abbrev pub apart : ParticipantFile → ℕ → ℕ → Bool
apart file a b = not (a == b) && not (related file a b)

-- three participants, pairwise apart and each apart from the requester
abbrev pub are_unrelated : ParticipantFile → ℕ → ℕ → ℕ → ℕ → Bool
are_unrelated file requester a b c = apart file requester a && apart file requester b && apart file requester c && apart file a b && apart file a c && apart file b c

-- three such members of the list (17 CFR 37.9(a)(3))
abbrev pub three_unrelated : ParticipantFile → ℕ → List ℕ → Bool
three_unrelated file requester rs = list_any (λ a. list_any (λ b. list_any (λ c. are_unrelated file requester a b c) rs) rs) rs

-- the same as a relation
abbrev pub ThreeUnrelated : ParticipantFile → ℕ → List ℕ → Type 0
ThreeUnrelated file requester rs =
    (a : ℕ) × (b : ℕ) × (c : ℕ) × Contains rs a × Contains rs b × Contains rs c × (apart file requester a ≡ true) × (apart file requester b ≡ true) × (apart file requester c ≡ true) × (apart file a b ≡ true) × (apart file a c ≡ true) × (apart file b c ≡ true)

-- the test of whether there are three agrees with the relation
pub record Emits (file : ParticipantFile) (requester : ℕ) (rs : List ℕ) (stated : Bool) : Type 0 where
  pub there_are : stated ≡ true → ThreeUnrelated file requester rs
  pub stated_true : ThreeUnrelated file requester rs → stated ≡ true
