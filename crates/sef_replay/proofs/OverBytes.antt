-- A report on the database of some bytes.
use Rattle.std.proofs.Common.{◌≡◌, ◌⊎◌, inl, inr, ℕ, List, true, ap, sym, subst, ◌∙◌, IsTrue}
use Rattle.sqlite.specs.Effect.{Database}
use Rattle.sqlite.specs.Opening.{is_open_error}
use Rattle.sqlite.specs.declared.error.Error.{Error}
use Rattle.sqlite.specs.declared.error.Error.TheVariants.{SqliteFailure}
use Rattle.sqlite.specs.declared.error.ErrorCode.TheVariants.{DiskFull, OutOfMemory, SystemIoFailure}
use Rattle.trail_bytes.specs.Bytes.{HoldNone, IsOf, IsOpenFault, is_refusal}
use Rattle.sef_replay.specs.declared.failure.Failure.{Failure}
use Rattle.sef_replay.specs.declared.failure.Failure.TheVariants.{Stopped, Trail as TrailRefused}
use Rattle.sef_replay.specs.declared.failure.Stop.TheVariants as stop
use Rattle.sef_replay.specs.Copied.{IsUnopened}
use Rattle.sef_replay.specs.Failures.{open_failure}

-- the bytes that were lent are those that were read
pub of_same : (log db lent more : List ℕ) (of : Database) → lent ≡ log → more ≡ db → IsOf lent more of → IsOf log db of
of_same log db lent more of same too is = subst (λ (l : List ℕ). IsOf l db of) same (subst (λ (d : List ℕ). IsOf lent d of) too is)

none_same : (log db lent more : List ℕ) → lent ≡ log → more ≡ db → HoldNone lent more → HoldNone log db
none_same log db lent more same too none = subst (λ (l : List ℕ). HoldNone l db) same (subst (λ (d : List ℕ). HoldNone lent d) too none)

stops : (e : Error) (number : ℕ) (f : Failure) → (f ≡ TrailRefused number → ⊥) → open_failure e ≡ f → open_failure e ≡ TrailRefused number → ⊥
stops e number f other at is = other (sym at ∙ is)

memory_stops : (e : Error) (number : ℕ) → e ≡ SqliteFailure OutOfMemory → open_failure e ≡ TrailRefused number → ⊥
memory_stops e number at is = stops e number (Stopped stop.Memory) (λ f. absurd (cc)) (ap open_failure at) is

disk_stops : (e : Error) (number : ℕ) → e ≡ SqliteFailure SystemIoFailure → open_failure e ≡ TrailRefused number → ⊥
disk_stops e number at is = stops e number (Stopped stop.Trail) (λ f. absurd (cc)) (ap open_failure at) is

full_stops : (e : Error) (number : ℕ) → e ≡ SqliteFailure DiskFull → open_failure e ≡ TrailRefused number → ⊥
full_stops e number at is = stops e number (Stopped stop.Trail) (λ f. absurd (cc)) (ap open_failure at) is

-- an error of the store that refuses the bytes alone gets a number
numbered : (e : Error) (number : ℕ) → IsOpenFault e → open_failure e ≡ TrailRefused number → is_refusal e ≡ true
numbered e number (inl refuses) is = refuses
numbered e number (inr (inl memory)) is = absurd (memory_stops e number memory is)
numbered e number (inr (inr (inl disk))) is = absurd (disk_stops e number disk is)
numbered e number (inr (inr (inr full))) is = absurd (full_stops e number full is)

pub unopened : (log db lent more : List ℕ) (e : Error) (failure : Failure) → lent ≡ log → more ≡ db → failure ≡ open_failure e → IsTrue (is_open_error e)
    → (is_refusal e ≡ true → HoldNone lent more) → IsOpenFault e → IsUnopened log db failure
unopened log db lent more e failure same too is known none fault =
    (e, is, known, (λ number why. none_same log db lent more same too (none (numbered e number fault (sym is ∙ why)))))

pub or_begun : (Same One Other : Type 0) → Same ⊎ One → (One → Other) → Same ⊎ Other
or_begun Same One Other (inl same) f = inl same
or_begun Same One Other (inr one) f = inr (f one)
