-- What it says that replies differ, and that none do.
use Rattle.std.specs.Prelude.{◌≡◌, ℕ, All, Decides, List, [], Option, true}
use Rattle.participants.specs.ParticipantFile.{ParticipantFile}
use Rattle.venue_rules.specs.declared.replies.Reply.{Reply}
use Rattle.venue_rules.specs.declared.trail.TrailRow.{TrailRow}
use Rattle.venue_rules.specs.Market.{Market}
use Rattle.venue_rules.specs.Run.{Input}
use Rattle.venue_core.specs.Replay.{AreEmitted}
use Rattle.trail_comparison.specs.Differences.{differences}
use Rattle.trail_comparison.specs.Sent.{are_same, sent_all}
use Rattle.trail_comparison.specs.Under.{have_same_trades}
use Rattle.trail_comparison.specs.Without.{is_shared, shared_inputs}

-- replies are the same exactly where the same texts are sent to participants of the same names, in order
abbrev pub SameIsSentAlike : Type 0
SameIsSentAlike = (one other : ParticipantFile) (rs ss : List Reply) → Decides (are_same one other rs ss) (sent_all one rs ≡ sent_all other ss)

-- where no row is left out, the two runs in one market take the same inputs, and all answers and trades are the same
abbrev pub NothingLeftOut : Type 0
NothingLeftOut =
    (left : Option ℕ) (m : Market) (rs : List TrailRow) (is : List Input) → AreEmitted rs is → All (λ r. is_shared left r ≡ true) rs
    → (shared_inputs left is ≡ is) × (differences left m m rs is ≡ []) × (have_same_trades left m m is ≡ true)
