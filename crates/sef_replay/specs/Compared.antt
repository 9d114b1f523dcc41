-- Two trails compared, from the bytes of their files.
use Rattle.std.specs.Prelude.{◌≡◌, ◌≢◌, ◌⊎◌, ℕ, List, Option, None, ⊤}
use Rattle.std.specs.Io.KnownBytes.{Keeps}
use Rattle.sqlite.specs.Effect.{Database}
use Rattle.venue_rules.specs.Market.{Market}
use Rattle.trail_digest.specs.Comparison.{Side}
use Rattle.trail_digest.specs.Trail.{Trail}
use Rattle.trail_bytes.specs.Bytes.{IsOf}
use Rattle.trail_comparison.specs.Comparison.{BeginsComparison, EmitsComparison, market_of}
use Rattle.sef_replay.specs.declared.comparing.ComparedFailure.{ComparedFailure}
use Rattle.sef_replay.specs.declared.comparing.ComparedFailure.TheVariants.{OfA, OfB, Differ, Memory, Output}
use Rattle.sef_replay.specs.declared.copied.Copied.{Copied}
use Rattle.sef_replay.specs.declared.reading.ReadDay.{ReadDay}
use Rattle.sef_replay.specs.Asked.{OfTrail, content}
use Rattle.sef_replay.specs.Copied.{FailsOver}

-- what was read of a trail
abbrev pub read_side : ReadDay → Side
read_side r = record { trail = content r.files r.delays.items r.day.rows.items; participants = r.day.participants; instruments = r.day.instruments }

-- a trail of this market and this content
abbrev pub IsSide : Side → Market → Trail → Type 0
IsSide side m trail = (market_of side ≡ m) × (side.trail ≡ trail)

-- the bytes of two files hold this trail
pub record IsDayOver (log db : List ℕ) (side : Side) : Type 0 where
  pub of : Database
  pub is_of : IsOf log db of
  pub day : OfTrail (IsSide side) of

-- The bytes hold two trails that are alike so, and the output compares them.
pub record ComparesOver (Alike : Trail → Trail → Type 0) (one other : Copied) (before after : Option (List ℕ)) : Type 0 where
  pub a : Side
  pub b : Side
  pub is_a : IsDayOver one.log.items one.db.items a
  pub is_b : IsDayOver other.log.items other.db.items b
  pub alike : Alike a.trail b.trail
  pub emits : EmitsComparison a b before after

-- files, delays and rows are the same, or not
abbrev pub AreAlike : (one other : Copied) (before after : Option (List ℕ)) → Type 0
AreAlike one other before after = ComparesOver (λ s t. s ≡ t) one other before after

abbrev pub AreApart : (one other : Copied) (before after : Option (List ℕ)) → Type 0
AreApart one other before after = ComparesOver (λ s t. s ≢ t) one other before after

-- a first part of the comparison was written
pub record BeginsComparing (one other : Copied) (before after : Option (List ℕ)) : Type 0 where
  pub a : Side
  pub b : Side
  pub is_a : IsDayOver one.log.items one.db.items a
  pub is_b : IsDayOver other.log.items other.db.items b
  pub begins : BeginsComparison a b before after

-- why two trails are not said to be the same: one of them is refused, or reading it stopped, for a reason that its
-- bytes have, and nothing was written; they differ, as the output says; or an allocation or a write failed
abbrev pub FailsToCompare : (one other : Copied) (before after : Option (List ℕ)) → ComparedFailure → Type 0
FailsToCompare one other before after (OfA failure) = FailsOver None one.log.items one.db.items None None failure × Keeps before after
FailsToCompare one other before after (OfB failure) = FailsOver None other.log.items other.db.items None None failure × Keeps before after
FailsToCompare one other before after Differ = AreApart one other before after
FailsToCompare one other before after Memory = Keeps before after ⊎ BeginsComparing one other before after
FailsToCompare one other before after Output = ⊤
