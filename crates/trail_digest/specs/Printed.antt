-- Texts for people, piece by piece.
use Rattle.std.specs.Prelude.{ℕ, ◌+◌, ◌-◌, ◌/◌, ◌%◌, List, [], ◌∷◌, ◌==◌, ◌||◌, nat_lt, codes, decimal, if◌then◌else◌}
use Rattle.std.specs.List.{flat_map}
use Rattle.sef_moment.specs.Utc.{utc_text}
use Rattle.participants.specs.ParticipantFile.{ParticipantFile}
use Rattle.participants.specs.Relations.{name_of}
use Rattle.venue_rules.specs.declared.trail.TrailRow.{TrailRow}

abbrev pub concat : List (List ℕ) → List ℕ
concat pieces = flat_map (λ (piece : List ℕ). piece) pieces

-- The text of a row as one can read it: | stands for the byte 1, and \x and two hexadecimal digits for each other byte
-- that is not printed, as the end of a line, so that no text of a row looks like a row.

abbrev pub hex_digit : ℕ → ℕ
hex_digit n = if nat_lt n 10 then n + 48 else n + 87

abbrev pub readable_byte : ℕ → List ℕ
readable_byte b = if b == 1 then 124 ∷ [] else (if nat_lt b 32 || nat_lt 126 b then 92 ∷ 120 ∷ hex_digit (b / 16) ∷ hex_digit (b % 16) ∷ [] else b ∷ [])

abbrev pub readable : List ℕ → List ℕ
readable text = flat_map readable_byte text

-- a row with a message: its number and moment, who sent it in which era under which number, and its text
abbrev pub message_pieces : ParticipantFile → TrailRow → List (List ℕ)
message_pieces file r =
    codes "row " ∷ decimal r.n ∷ codes " at " ∷ utc_text r.moment ∷ codes " from " ∷ name_of file (r.who - 1)
    ∷ codes ", sequence number " ∷ decimal r.number ∷ codes " in era " ∷ decimal r.era ∷ codes ": " ∷ readable r.text ∷ codes "\n" ∷ []

abbrev pub clock_pieces : TrailRow → List (List ℕ)
clock_pieces r = codes "row " ∷ decimal r.n ∷ codes " at " ∷ utc_text r.moment ∷ codes ": the clock\n" ∷ []

unfoldable pub row_text : ParticipantFile → TrailRow → List ℕ
row_text file r = if r.who == 0 then concat (clock_pieces r) else concat (message_pieces file r)
