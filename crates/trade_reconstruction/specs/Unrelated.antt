-- Three recipients of a request: unrelated to the requester and to each other (17 CFR 37.9(a)(3)).
use Rattle.std.specs.Prelude.{ℕ, Bool, List, find, Option, Some, None}
use Rattle.std.specs.List.{list_any}
use Rattle.participants.specs.ParticipantFile.{ParticipantFile}
use Rattle.participants.specs.Relations.{are_unrelated}
use Rattle.trade_reconstruction.specs.declared.unrelated.Three.{Three}

-- a third recipient for two, a second for one

abbrev pub has_third : ParticipantFile → ℕ → ℕ → ℕ → List ℕ → Bool
has_third file requester a b rs = list_any (λ c. are_unrelated file requester a b c) rs

abbrev pub has_second : ParticipantFile → ℕ → ℕ → List ℕ → Bool
has_second file requester a rs = list_any (λ b. has_third file requester a b rs) rs

-- the first that has a second and a third, the first second for it, and the first third for both

abbrev pub with_third : ℕ → ℕ → Option ℕ → Option Three
with_third a b None = None
with_third a b (Some c) = Some (record { first = a; second = b; third = c })

abbrev pub with_second : ParticipantFile → ℕ → ℕ → List ℕ → Option ℕ → Option Three
with_second file requester a rs None = None
with_second file requester a rs (Some b) = with_third a b (find (are_unrelated file requester a b) rs)

abbrev pub with_first : ParticipantFile → ℕ → List ℕ → Option ℕ → Option Three
with_first file requester rs None = None
with_first file requester rs (Some a) = with_second file requester a rs (find (λ b. has_third file requester a b rs) rs)

abbrev pub three_of : ParticipantFile → ℕ → List ℕ → Option Three
three_of file requester rs = with_first file requester rs (find (λ a. has_second file requester a rs) rs)
