-- The figures of a participant's own day.
use Rattle.std.specs.Prelude.{◌≡◌, ℕ, List, Option, None, Some}
use Rattle.participants.specs.Relations.{find_participant}
use Rattle.venue_rules.specs.Market.{Market}
use Rattle.venue_rules.specs.declared.trail.TrailRow.{TrailRow}
use Rattle.participant_activity.specs.Emitted.{EmitsActivity}
use Rattle.participant_activity.specs.declared.form.Form.{Form}
use Rattle.participant_activity.specs.declared.form.Form.TheVariants as form
use Rattle.trail_digest.specs.declared.head.HeadForm.{HeadForm}
use Rattle.trail_digest.specs.declared.head.HeadForm.TheVariants as head
use Rattle.trail_questions.specs.declared.fault.Unknown.{Unknown}
use Rattle.trail_questions.specs.declared.fault.Unknown.TheVariants.{Recipient}

-- the head above the figures in a form; a table has none
abbrev pub activity_head : Form → Option HeadForm
activity_head form.Lines = Some head.Line
activity_head form.Table = None

-- the output is the figures of the participant with this name
pub record EmitsActivityOf (desk : List ℕ) (form : Form) (m : Market) (rows : List TrailRow) (before after : Option (List ℕ)) : Type 0 where
  pub who : ℕ
  pub found : find_participant m.participants desk ≡ Some who
  pub emits : EmitsActivity form m rows who before after

-- nobody has the name
abbrev pub IsNobody : (desk : List ℕ) → Market → Unknown → Type 0
IsNobody desk m Recipient = find_participant m.participants desk ≡ None
IsNobody desk m _ = ⊥
