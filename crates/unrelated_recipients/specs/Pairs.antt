-- Which participants of a list are related, in pairs: in the order of the first of each, and then of the second.
use Rattle.std.specs.Prelude.{◌≡◌, ℕ, true, false, List, [], ◌∷◌, ◌++◌, Contains, filter, map}
use Rattle.participants.specs.ParticipantFile.{ParticipantFile}
use Rattle.participants.specs.Relations.{related}
use Rattle.participants.specs.Rows.{is_participant_file}

-- the pairs of one with those behind it
abbrev pub pairs_of_one : ParticipantFile → ℕ → List ℕ → List (ℕ × ℕ)
pairs_of_one file a others = map (λ b. (a, b)) (filter (related file a) others)

abbrev pub related_pairs : ParticipantFile → List ℕ → List (ℕ × ℕ)
related_pairs file [] = []
related_pairs file (a ∷ others) = pairs_of_one file a others ++ related_pairs file others

-- where no pair is listed, no two of them are related
abbrev pub NoneAreRelated : Type 0
NoneAreRelated =
    (file : ParticipantFile) (ws : List ℕ) → is_participant_file file ≡ true → related_pairs file ws ≡ []
    → (a b : ℕ) → Contains ws a → Contains ws b → related file a b ≡ false
