-- What is printed of the bytes of a log, and of a message that is owed, is one line: whoever writes a log writes no
-- line of the output.
use Rattle.std.specs.Prelude.{◌≡◌, ℕ, ◌==◌, ◌&&◌, ◌||◌, Bool, true, false, nat_le, List, [], ◌∷◌, Option}
use Rattle.desk_log.specs.declared.frames.Span.{Span}
use Rattle.desk_log.specs.declared.missing.Missing.{Missing}
use Rattle.desk_log.specs.declared.owed.Owed.{Owed}
use Rattle.desk_log.specs.Listing.{owed_said}
use Rattle.desk_log.specs.Numbered.{Logged}
use Rattle.desk_log.specs.Report.{logged_line, missing_line, owed_row, text_line}

abbrev pub is_end : List ℕ → Bool
is_end [] = true
is_end (b ∷ bs) = false

-- no byte below 32 but the end of the line, which is the last
abbrev pub is_line : List ℕ → Bool
is_line [] = false
is_line (b ∷ bs) = (b == 10 && is_end bs) || (nat_le 32 b && is_line bs)

abbrev pub TextsAreLines : Type 0
TextsAreLines = ((log : List ℕ) (l : Logged) → is_line (logged_line log l) ≡ true)
    × ((log : List ℕ) (s : Span) → is_line (text_line log s) ≡ true)
    × ((o : Owed) → is_line (owed_row o) ≡ true)
    × ((owed : Bool) (m : Missing) (o : Option Owed) → is_line (missing_line owed m o) ≡ true)
    × ((log : List ℕ) (at many : ℕ) (o : Owed) (l : Option Logged) → is_line (owed_said log at many o l) ≡ true)
