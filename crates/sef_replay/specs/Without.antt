-- The rows of the trail that the bytes of two files hold, with those of a participant (A) and without (B).
use Rattle.std.specs.Prelude.{◌≡◌, ◌⊎◌, ℕ, Bool, true, false, List, Option, None, Some, ⊤}
use Rattle.std.specs.Io.KnownBytes.{Appends, Keeps}
use Rattle.participants.specs.Relations.{find_participant}
use Rattle.trail_digest.specs.Comparison.{Side}
use Rattle.trail_digest.specs.Head.{head_text}
use Rattle.trail_digest.specs.declared.head.HeadForm.TheVariants.{Line}
use Rattle.trail_comparison.specs.Comparison.{market_of}
use Rattle.trail_comparison.specs.Under.{EmitsWithout, IsBegunWithout}
use Rattle.sef_replay.specs.declared.copied.Copied.{Copied}
use Rattle.sef_replay.specs.declared.without.WithoutFailure.{WithoutFailure}
use Rattle.sef_replay.specs.declared.without.WithoutFailure.TheVariants.{OfTrail, Nobody, Differ, Memory, Output}
use Rattle.sef_replay.specs.Compared.{IsDayOver}
use Rattle.sef_replay.specs.Copied.{FailsOver}

-- Behind the head of the trail: how the answers to its rows differ without those of the participant with this name, and
-- the trades, both in the market of the trail.
pub record EmitsSideWithout (same : Bool) (side : Side) (name : List ℕ) (before after : Option (List ℕ)) : Type 0 where
  pub who : ℕ
  pub found : find_participant side.participants name ≡ Some who
  pub mid : Option (List ℕ)
  pub headed : Appends before mid (head_text Line side.trail)
  pub emits : EmitsWithout who same (market_of side) (market_of side) side.trail.rows mid after

-- or the head, and a first part
pub record BeginsSideWithout (side : Side) (name : List ℕ) (before after : Option (List ℕ)) : Type 0 where
  pub who : ℕ
  pub found : find_participant side.participants name ≡ Some who
  pub mid : Option (List ℕ)
  pub headed : Appends before mid (head_text Line side.trail)
  pub begins : IsBegunWithout who (market_of side) (market_of side) side.trail.rows mid after

-- why the answers are not said to be the same: nobody has the name, and nothing was written; they differ, as the output
-- says; or an allocation or a write failed
abbrev pub FailsSideWithout : Side → List ℕ → (before after : Option (List ℕ)) → WithoutFailure → Type 0
FailsSideWithout side name before after (OfTrail failure) = ⊥
FailsSideWithout side name before after Nobody = (find_participant side.participants name ≡ None) × Keeps before after
FailsSideWithout side name before after Differ = EmitsSideWithout false side name before after
FailsSideWithout side name before after Memory = Keeps before after ⊎ BeginsSideWithout side name before after
FailsSideWithout side name before after Output = ⊤

-- the bytes hold a trail, and the output says that all answers to its rows are the same
pub record EmitsWithoutRows (copied : Copied) (name : List ℕ) (before after : Option (List ℕ)) : Type 0 where
  pub side : Side
  pub day : IsDayOver copied.log.items copied.db.items side
  pub emits : EmitsSideWithout true side name before after

-- the bytes hold a trail, of whose rows that is not said
pub record IsFailureWithout (copied : Copied) (name : List ℕ) (before after : Option (List ℕ)) (failure : WithoutFailure) : Type 0 where
  pub side : Side
  pub day : IsDayOver copied.log.items copied.db.items side
  pub fails : FailsSideWithout side name before after failure

-- the trail is refused, or reading it stopped, for a reason that its bytes have, and nothing was written; or its rows
-- are not answered the same
abbrev pub FailsWithoutRows : Copied → List ℕ → (before after : Option (List ℕ)) → WithoutFailure → Type 0
FailsWithoutRows copied name before after (OfTrail failure) = FailsOver None copied.log.items copied.db.items None None failure × Keeps before after
FailsWithoutRows copied name before after Nobody = IsFailureWithout copied name before after Nobody
FailsWithoutRows copied name before after Differ = IsFailureWithout copied name before after Differ
FailsWithoutRows copied name before after Memory = IsFailureWithout copied name before after Memory
FailsWithoutRows copied name before after Output = IsFailureWithout copied name before after Output
