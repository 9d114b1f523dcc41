-- A row whose replies differ, or not.
use Rattle.std.proofs.Common.{◌≡◌, ℕ, List, [], ◌∷◌, true, false, Bool, refl, ap, sym, ◌∙◌, append-nil}
use Rattle.std.specs.List.{flat_map}
use Rattle.participants.specs.ParticipantFile.{ParticipantFile}
use Rattle.venue_rules.specs.declared.replies.Reply.{Reply}
use Rattle.venue_rules.specs.declared.trail.TrailRow.{TrailRow}
use Rattle.venue_rules.specs.Run.{Input}
use Rattle.trail_comparison.specs.Differences.{Difference, difference_at, difference_text}
use Rattle.trail_comparison.specs.Sent.{are_same}

listed : Difference → Bool → List Difference
listed d true = []
listed d false = d ∷ []

pub none_differs : (one other : ParticipantFile) (r : TrailRow) (i : Input) (rs ss : List Reply) → are_same one other rs ss ≡ true → difference_at one other r i rs ss ≡ []
none_differs one other r i rs ss same = rw same refl

pub one_differs : (one other : ParticipantFile) (r : TrailRow) (i : Input) (rs ss : List Reply) → are_same one other rs ss ≡ false
    → difference_at one other r i rs ss ≡ record { row = r; input = i; one = rs; other = ss } ∷ []
one_differs one other r i rs ss differs = rw differs refl

-- its lines are those of the one row
pub one_text : (one other : ParticipantFile) (d : Difference) (ds : List Difference) (text : List ℕ) → ds ≡ d ∷ [] → text ≡ difference_text one other d → text ≡ flat_map (difference_text one other) ds
one_text one other d ds text are is = is ∙ sym (append-nil (difference_text one other d)) ∙ ap (flat_map (difference_text one other)) (sym are)
