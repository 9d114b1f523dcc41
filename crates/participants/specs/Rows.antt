use Rattle.std.specs.Prelude.{ℕ, Bool, not, ◌&&◌, ◌||◌, ◌==◌, nat_le, nat_lt, List, ◌∷◌, length, bytes_eq}
use Rattle.std.specs.List.{list_all}
use Rattle.config_format.specs.Rows.{are_distinct_by}
use Rattle.participants.specs.ParticipantFile.{ParticipantFile}
use Rattle.participants.specs.Names.{is_name}

-- the most participants of a file
abbrev pub most_participants : ℕ
most_participants = 32

-- no name occurs twice
abbrev pub are_distinct : List (List ℕ) → Bool
are_distinct ns = are_distinct_by bytes_eq ns

-- the same two participants, in either order
abbrev pub is_same_pair : ℕ × ℕ → ℕ × ℕ → Bool
is_same_pair p q = (p.0 == q.0 && p.1 == q.1) || (p.0 == q.1 && p.1 == q.0)

-- no pair occurs twice
abbrev pub are_distinct_pairs : List (ℕ × ℕ) → Bool
are_distinct_pairs ps = are_distinct_by is_same_pair ps

-- a pair of two different participants of the file
abbrev pub is_pair : ℕ → ℕ × ℕ → Bool
is_pair count p = nat_lt p.0 count && (nat_lt p.1 count && not (p.0 == p.1))

-- the rules of a participant file: 1 to 32 distinct names, none of them the venue's, and pairs of different
-- participants, each once
abbrev pub is_participant_file : ParticipantFile → Bool
is_participant_file f =
    nat_le 1 (length f.names) && (nat_le (length f.names) most_participants
    && (is_name f.venue && (list_all is_name f.names && (are_distinct (f.venue ∷ f.names)
    && (list_all (is_pair (length f.names)) f.pairs && are_distinct_pairs f.pairs)))))
