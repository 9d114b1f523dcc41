-- The digest of a trail's content, up to a row or the last.
use Rattle.std.specs.Prelude.{◌≡◌, ℕ, true, false, List, length, Option}
use Rattle.std.specs.Io.KnownBytes.{Appends}
use Rattle.trail_digest.specs.Head.{count_asked, is_there, row_digest_text}
use Rattle.trail_digest.specs.Trail.{Trail}
use Rattle.trail_questions.specs.declared.fault.Unknown.{Unknown}
use Rattle.trail_questions.specs.declared.fault.Unknown.TheVariants.{Row}

-- the output is how many rows there are up to this one, and their digest
pub record EmitsDigest (trail : Trail) (row : Option ℕ) (before after : Option (List ℕ)) : Type 0 where
  pub there : is_there row (length trail.rows) ≡ true
  pub emits : Appends before after (row_digest_text (count_asked row (length trail.rows)) trail)

-- the trail has no such row
abbrev pub IsUnknownRow : Trail → Option ℕ → Unknown → Type 0
IsUnknownRow trail row Row = is_there row (length trail.rows) ≡ false
IsUnknownRow trail row _ = ⊥
