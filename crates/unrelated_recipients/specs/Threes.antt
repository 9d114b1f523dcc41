-- The three recipients of a request that are unrelated to its requester and to each other (17 CFR 37.9(a)(2), (a)(3)):
-- of those who are, the first.
use Rattle.std.specs.Prelude.{◌≡◌, ℕ, Bool, true, List, Contains, map, is_some, Option, IfSome}
use Rattle.std.specs.List.{find, flat_map}
use Rattle.participants.specs.ParticipantFile.{ParticipantFile}
use Rattle.participants.specs.Relations.{are_unrelated, three_unrelated}
use Rattle.unrelated_recipients.specs.declared.threes.Three.{Three}

-- each list of three recipients, in the order of their places in the request

abbrev pub threes_of_two : ℕ → ℕ → List ℕ → List Three
threes_of_two a b rs = map (λ c. record { first = a; second = b; third = c }) rs

abbrev pub threes_of_one : ℕ → List ℕ → List Three
threes_of_one a rs = flat_map (λ b. threes_of_two a b rs) rs

abbrev pub threes : List ℕ → List Three
threes rs = flat_map (λ a. threes_of_one a rs) rs

-- unrelated to the requester and to each other
abbrev pub is_unrelated : ParticipantFile → ℕ → Three → Bool
is_unrelated file requester t = are_unrelated file requester t.first t.second t.third

abbrev pub first_three : ParticipantFile → ℕ → List ℕ → Option Three
first_three file requester rs = find (is_unrelated file requester) (threes rs)

-- three recipients that are
pub record AreUnrelated (file : ParticipantFile) (requester : ℕ) (rs : List ℕ) (t : Three) : Type 0 where
  pub first_asked : Contains rs t.first
  pub second_asked : Contains rs t.second
  pub third_asked : Contains rs t.third
  pub unrelated : are_unrelated file requester t.first t.second t.third ≡ true

-- they are found if and only if there are three
abbrev pub ThreeAreFound : Type 0
ThreeAreFound = (file : ParticipantFile) (requester : ℕ) (rs : List ℕ) → is_some (first_three file requester rs) ≡ three_unrelated file requester rs

abbrev pub FoundAreUnrelated : Type 0
FoundAreUnrelated = (file : ParticipantFile) (requester : ℕ) (rs : List ℕ) → IfSome (first_three file requester rs) (AreUnrelated file requester rs)
