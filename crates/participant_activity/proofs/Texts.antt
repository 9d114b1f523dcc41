-- The text of a participant's day.
use Rattle.std.proofs.Common.{◌≡◌, ℕ, List, Option, refl, ap, subst, ◌∙◌}
use Rattle.std.specs.Io.KnownBytes.{Appends}
use Rattle.participants.specs.ParticipantFile.{ParticipantFile}
use Rattle.participants.specs.Relations.{name_of}
use Rattle.venue_rules.specs.declared.trail.TrailRow.{TrailRow}
use Rattle.venue_rules.specs.Market.{Market}
use Rattle.venue_core.specs.State.{State}
use Rattle.row_replay.specs.Laws.{AreTheirs}
use Rattle.participant_activity.specs.declared.form.Form.{Form}
use Rattle.participant_activity.specs.Emitted.{EmitsActivity, IsActivity}
use Rattle.participant_activity.specs.Figures.{activity_text}
use Rattle.participant_activity.specs.Kept.{Activity}
use Rattle.participant_activity.specs.Laws.{KeptIsOfTurns, TurnsAreOwed, TurnsAreSent}
use Rattle.participant_activity.specs.Replayed.{IsNoted}
use Rattle.participant_activity.specs.Turns.{turns_of}

pub activity_is : AreTheirs → TurnsAreSent → TurnsAreOwed → KeptIsOfTurns → (form : Form) (m : Market) (rs : List TrailRow) (who : ℕ) (s : State) (a : Activity) (file : ParticipantFile) (text : List ℕ) → IsNoted m who rs s a → file ≡ s.market.participants
    → text ≡ activity_text form (name_of file who) a → IsActivity form m rs who text
activity_is theirs sends owes kept form m rs who s a file text noted own is = record {
  items = noted.items;
  emitted = theirs rs noted.items noted.emitted;
  turns = turns_of m who noted.items;
  are = refl;
  sends = sends m who noted.items;
  owes = owes m who noted.items;
  is = is ∙ (λ k. activity_text form (name_of ((own ∙ ap (λ (x : Market). x.participants) noted.stands.market) k) who) ((noted.noted ∙ kept m who noted.items) k));
}

pub emits_activity : (form : Form) (m : Market) (rs : List TrailRow) (who : ℕ) (text : List ℕ) (before after : Option (List ℕ)) → IsActivity form m rs who text → Appends before after text → EmitsActivity form m rs who before after
emits_activity form m rs who text before after day written = record {
  items = day.items;
  emitted = day.emitted;
  turns = day.turns;
  are = day.are;
  sends = day.sends;
  owes = day.owes;
  written = subst (Appends before after) day.is written;
}
