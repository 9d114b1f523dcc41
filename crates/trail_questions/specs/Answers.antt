-- The venue's answers of a day, as they are narrowed.
use Rattle.std.specs.Prelude.{◌≡◌, ◌⊎◌, ℕ, Bool, true, false, ◌&&◌, ◌||◌, if◌then◌else◌, nat_le, List, length, Option, None, Some, is_some}
use Rattle.participants.specs.ParticipantFile.{ParticipantFile}
use Rattle.participants.specs.Relations.{find_participant}
use Rattle.venue_rules.specs.Market.{Market}
use Rattle.venue_rules.specs.declared.trail.TrailRow.{TrailRow}
use Rattle.trail_answers.specs.declared.scope.RowSpan.{RowSpan}
use Rattle.trail_answers.specs.declared.scope.Scope.{Scope}
use Rattle.trail_answers.specs.Emitted.{BeginsRows, EmitsAnswers, HasNoOrder, HasNoRoom}
use Rattle.trail_answers.specs.Owed.{EmitsOwed, owed_to}
use Rattle.std.specs.Io.KnownBytes.{Keeps}
use Rattle.trail_digest.specs.Trail.{Trail}
use Rattle.trail_digest.specs.declared.head.HeadForm.{HeadForm}
use Rattle.trail_questions.specs.Headed.{Heads, head_form}
use Rattle.trail_questions.specs.declared.answers.Narrowing.{Narrowing}
use Rattle.trail_questions.specs.declared.fault.Unknown.{Unknown}
use Rattle.trail_questions.specs.declared.fault.Unknown.TheVariants.{Order, Recipient, Room, Row, Sender}
use Rattle.message_words.specs.declared.form.Form.{Form}

-- the participant with this name, or none where no name is given
abbrev pub Names : ParticipantFile → Option (List ℕ) → Option ℕ → Type 0
Names file None who = who ≡ None
Names file (Some name) who = (find_participant file name ≡ who) × (is_some who ≡ true)

abbrev pub NamesNobody : ParticipantFile → Option (List ℕ) → Type 0
NamesNobody file None = ⊥
NamesNobody file (Some name) = find_participant file name ≡ None

-- a trail of so long a list has these rows
abbrev pub are_there : Option RowSpan → ℕ → Bool
are_there None count = true
are_there (Some span) count = nat_le 1 span.first && (nat_le span.first span.last && nat_le span.last count)

-- names and numbers give a scope in a trail of this many rows
pub record Narrows (file : ParticipantFile) (count : ℕ) (n : Narrowing) (scope : Scope) : Type 0 where
  pub to : Names file n.to scope.to
  pub from : Names file n.from scope.from
  pub rows : scope.rows ≡ n.rows
  pub there : are_there n.rows count ≡ true
  pub order : scope.order ≡ n.order
  pub room : scope.room ≡ n.room

-- and do not, since one of them is not there
abbrev pub IsUnknownNarrowing : ParticipantFile → ℕ → Narrowing → Unknown → Type 0
IsUnknownNarrowing file count n Recipient = NamesNobody file n.to
IsUnknownNarrowing file count n Sender = NamesNobody file n.from
IsUnknownNarrowing file count n Row = are_there n.rows count ≡ false
IsUnknownNarrowing file count n _ = ⊥

-- an order or a room is sought
abbrev pub is_sought : Narrowing → Bool
is_sought n = is_some n.order || is_some n.room

-- the head that is written before the first answer; where something is sought, none until all is made
abbrev pub own_head : Narrowing → Form → Option HeadForm
own_head n form = if is_sought n then None else head_form form

-- The output is the answers in that scope, behind their own head; and for one participant's replies alone, what it is
-- owed.
pub record EmitsNarrowed (n : Narrowing) (form : Form) (m : Market) (trail : Trail) (before after : Option (List ℕ)) : Type 0 where
  pub scope : Scope
  pub narrows : Narrows m.participants (length trail.rows) n scope
  pub mid : Option (List ℕ)
  pub headed : Heads (own_head n form) trail before mid
  pub emits : EmitsAnswers form m scope trail.rows mid after
  pub owed : (who : ℕ) → scope ≡ owed_to who → EmitsOwed form m trail.rows who mid after

-- or the head, and nothing or those of the first rows
pub record BeginsNarrowed (n : Narrowing) (form : Form) (m : Market) (trail : Trail) (before after : Option (List ℕ)) : Type 0 where
  pub scope : Scope
  pub narrows : Narrows m.participants (length trail.rows) n scope
  pub mid : Option (List ℕ)
  pub headed : Heads (own_head n form) trail before mid
  pub begins : Keeps mid after ⊎ BeginsRows form m scope trail.rows mid after

-- no row of the day is about the order
pub record NamesNoOrder (n : Narrowing) (m : Market) (rows : List TrailRow) : Type 0 where
  pub scope : Scope
  pub narrows : Narrows m.participants (length rows) n scope
  pub none : HasNoOrder m scope rows

-- nor was a request sent in the room
pub record NamesNoRoom (n : Narrowing) (m : Market) (rows : List TrailRow) : Type 0 where
  pub scope : Scope
  pub narrows : Narrows m.participants (length rows) n scope
  pub none : HasNoRoom m scope rows

-- nobody has such a name, the trail has no such rows, or the day no such order or room
abbrev pub IsUnknownAnswer : Narrowing → Market → List TrailRow → Unknown → Type 0
IsUnknownAnswer n m rows Recipient = NamesNobody m.participants n.to
IsUnknownAnswer n m rows Sender = NamesNobody m.participants n.from
IsUnknownAnswer n m rows Row = are_there n.rows (length rows) ≡ false
IsUnknownAnswer n m rows Order = NamesNoOrder n m rows
IsUnknownAnswer n m rows Room = NamesNoRoom n m rows
IsUnknownAnswer n m rows _ = ⊥
