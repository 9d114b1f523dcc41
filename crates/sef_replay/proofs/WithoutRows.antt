-- The rows of a trail without those of a participant.
use Rattle.std.proofs.Common.{◌≡◌, inr, ◌⊎◌, ℕ, Bool, List, Option, Some, sym, subst}
use Rattle.std.specs.Io.KnownBytes.{Appends, Keeps}
use Rattle.participants.specs.Relations.{find_participant}
use Rattle.trail_comparison.specs.Comparison.{market_of}
use Rattle.trail_comparison.specs.Under.{EmitsWithout, IsBegunWithout}
use Rattle.trail_digest.specs.Comparison.{Side}
use Rattle.trail_digest.specs.Head.{head_text}
use Rattle.trail_digest.specs.declared.head.HeadForm.TheVariants.{Line}
use Rattle.venue_rules.specs.Market.{Market}
use Rattle.venue_rules.specs.declared.trail.TrailRow.{TrailRow}
use Rattle.sef_replay.specs.declared.copied.Copied.{Copied}
use Rattle.sef_replay.specs.declared.without.WithoutFailure.{WithoutFailure}
use Rattle.sef_replay.specs.declared.without.WithoutFailure.TheVariants.{OfTrail, Nobody, Differ, Memory, Output}
use Rattle.sef_replay.specs.Compared.{IsDayOver}
use Rattle.sef_replay.specs.Without.{BeginsSideWithout, EmitsSideWithout, FailsSideWithout, FailsWithoutRows}

-- behind the head, where both take the rules and the rows of the trail
pub side_emitted : (same : Bool) (side : Side) (m n : Market) (rows : List TrailRow) (name : List ℕ) (who : ℕ) (before mid after : Option (List ℕ)) → m ≡ market_of side → n ≡ market_of side
    → rows ≡ side.trail.rows → find_participant side.participants name ≡ Some who → Appends before mid (head_text Line side.trail) → EmitsWithout who same m n rows mid after
    → EmitsSideWithout same side name before after
side_emitted same side m n rows name who before mid after own again all found headed emits = record {
  who = who;
  found = found;
  mid = mid;
  headed = headed;
  emits = subst (λ (rs : List TrailRow). EmitsWithout who same (market_of side) (market_of side) rs mid after) all
      (subst (λ (k : Market). EmitsWithout who same (market_of side) k rows mid after) again (subst (λ (k : Market). EmitsWithout who same k n rows mid after) own emits));
}

pub side_begun : (side : Side) (m n : Market) (rows : List TrailRow) (name : List ℕ) (who : ℕ) (before mid after : Option (List ℕ)) → m ≡ market_of side → n ≡ market_of side
    → rows ≡ side.trail.rows → find_participant side.participants name ≡ Some who → Appends before mid (head_text Line side.trail) → IsBegunWithout who m n rows mid after
    → Keeps before after ⊎ BeginsSideWithout side name before after
side_begun side m n rows name who before mid after own again all found headed begins = inr (record {
  who = who;
  found = found;
  mid = mid;
  headed = headed;
  begins = subst (λ (rs : List TrailRow). IsBegunWithout who (market_of side) (market_of side) rs mid after) all
      (subst (λ (k : Market). IsBegunWithout who (market_of side) k rows mid after) again (subst (λ (k : Market). IsBegunWithout who k n rows mid after) own begins));
})

-- what fails of a trail that was read
pub failed_without : (copied : Copied) (side : Side) (name : List ℕ) (before after : Option (List ℕ)) (failure : WithoutFailure) → IsDayOver copied.log.items copied.db.items side
    → FailsSideWithout side name before after failure → FailsWithoutRows copied name before after failure
failed_without copied side name before after (OfTrail failure) day fails = absurd fails
failed_without copied side name before after Nobody day fails = record { side = side; day = day; fails = fails }
failed_without copied side name before after Differ day fails = record { side = side; day = day; fails = fails }
failed_without copied side name before after Memory day fails = record { side = side; day = day; fails = fails }
failed_without copied side name before after Output day fails = record { side = side; day = day; fails = fails }
