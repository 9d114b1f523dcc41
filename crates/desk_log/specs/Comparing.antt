-- The application messages of a log compared with those that are owed.
use Rattle.std.specs.Prelude.{◌≡◌, ◌≢◌, ℕ, ◌+◌, ◌<◌, ◌==◌, Bool, nat_lt, List, [], ◌∷◌, length, take, slice_get, Option, None, is_some, bytes_eq, if◌then◌else◌}
use Rattle.desk_log.specs.declared.frames.Span.{Span}
use Rattle.desk_log.specs.declared.owed.Owed.{Owed}
use Rattle.desk_log.specs.declared.comparing.Comparison.{Comparison}
use Rattle.desk_log.specs.declared.comparing.Comparison.TheVariants.{All, FirstPart, Differs}
use Rattle.desk_log.specs.declared.once.Conflict.{Conflict}
use Rattle.desk_log.specs.Numbered.{Logged, text_at}

abbrev pub owed_texts : List Owed → List (List ℕ)
owed_texts [] = []
owed_texts (o ∷ os) = o.text.items ∷ owed_texts os

abbrev pub is_owed : List ℕ → Span → Owed → Bool
is_owed log span o = bytes_eq (text_at log span) o.text.items

-- how many of the first messages of a log are the first that are owed
abbrev pub agreed : List ℕ → List Logged → List Owed → ℕ
agreed log [] os = 0
agreed log (l ∷ ls) [] = 0
agreed log (l ∷ ls) (o ∷ os) = if is_owed log l.1 o then agreed log ls os + 1 else 0

-- all that are owed, or the first part of them; else the next message of the log is another, or there are two of a
-- place
abbrev pub comparison_of : Option Conflict → (count logged owed : ℕ) → Comparison
comparison_of conflict count logged owed =
    if is_some conflict then Differs
    else (if nat_lt count logged then Differs else (if count == owed then All else FirstPart))

-- The texts of a log are those that are owed; or those up to there; or the first are, and the next is not.
abbrev pub Says : Comparison → Option Conflict → ℕ → (texts owed : List (List ℕ)) → Type 0
Says All conflict count texts owed = (conflict ≡ None) × (texts ≡ owed)
Says FirstPart conflict count texts owed = (conflict ≡ None) × (count < length owed) × (texts ≡ take count owed)
Says Differs conflict count texts owed = (take count texts ≡ take count owed) × (conflict ≡ None → (count < length texts) × (slice_get texts count ≢ slice_get owed count))
