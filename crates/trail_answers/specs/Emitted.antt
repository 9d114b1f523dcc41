-- The text of a day's answers, row by row.
use Rattle.std.specs.Prelude.{◌≡◌, ℕ, ◌<◌, Bool, true, false, ◌&&◌, not, List, [], ◌∷◌, ◌++◌, length, take, Option, ⊤, codes, if◌then◌else◌}
use Rattle.std.specs.Io.KnownBytes.{Appends}
use Rattle.participants.specs.ParticipantFile.{ParticipantFile}
use Rattle.venue_rules.specs.declared.replies.Reply.{Reply}
use Rattle.venue_rules.specs.declared.trail.TrailRow.{TrailRow}
use Rattle.venue_rules.specs.Answer.{Answer}
use Rattle.venue_rules.specs.Facts.{History, no_history}
use Rattle.venue_rules.specs.Market.{Market}
use Rattle.venue_rules.specs.Run.{Input, after, answer_input}
use Rattle.venue_core.specs.Replay.{AreEmitted, Emits}
use Rattle.venue_core.specs.VenueFacts.{IsHistory}
use Rattle.venue_core.specs.State.{State}
use Rattle.venue_core.specs.Taking.{Stands, Takes}
use Rattle.message_words.specs.declared.form.Form.{Form}
use Rattle.message_words.specs.declared.form.Form.TheVariants.{Lines}
use Rattle.row_replay.specs.Inputs.{AreOf}
use Rattle.trail_answers.specs.declared.fault.AnswersFault.{AnswersFault}
use Rattle.trail_answers.specs.declared.fault.AnswersFault.TheVariants.{Memory, Output, NoOrder, NoRoom}
use Rattle.trail_answers.specs.declared.scope.Scope.{Scope}
use Rattle.trail_answers.specs.Entries.{entries_text, heading}
use Rattle.trail_answers.specs.Sought.{Seen, is_order_there, is_room_there, is_sought, is_there, seen_after, unseen}

-- the text of a row, of its input and of the replies to it, where after it this is known of what is sought
abbrev pub emitted_at : Form → ParticipantFile → Scope → Seen → TrailRow → Input → List Reply → List ℕ
emitted_at form file scope seen r i replies = if is_sought scope seen r then entries_text form file scope.to r i replies else []

-- and of rows from a history on: the replies are the rules' answer to the input of each row
abbrev pub emitted_from : Form → Market → Scope → Seen → History → List TrailRow → List Input → List ℕ
emitted_from form m scope seen h [] is = []
emitted_from form m scope seen h (r ∷ rs) [] = []
emitted_from form m scope seen h (r ∷ rs) (i ∷ is) =
    let a = answer_input m h i in
    let known = seen_after scope seen i a.replies in
    emitted_at form m.participants scope known r i a.replies ++ emitted_from form m scope known (after h a) rs is

-- of a day
abbrev pub emitted_on : Form → Market → Scope → List TrailRow → List Input → List ℕ
emitted_on form m scope rs is = emitted_from form m scope (unseen scope) no_history rs is

-- below the names of the fields, where there are some
abbrev pub answers : Form → Market → Scope → List TrailRow → List Input → List ℕ
answers form m scope rs is = heading form ++ emitted_on form m scope rs is

-- As lines, an output without a row says so; a table is then its names alone, and JSON Lines are none.

abbrev pub is_nothing : List ℕ → Bool
is_nothing [] = true
is_nothing (c ∷ cs) = false

abbrev pub none_line : Form → List ℕ
none_line Lines = codes "no row has what is sought\n"
none_line _ = []

abbrev pub none_text : Form → Bool → List ℕ
none_text form true = none_line form
none_text form false = []

-- behind a text
abbrev pub or_none : Form → List ℕ → List ℕ
or_none form text = text ++ none_text form (is_nothing text)

-- what is known of what is sought, after inputs from a history on
abbrev pub seen_from : Market → Scope → Seen → History → List Input → Seen
seen_from m scope seen h [] = seen
seen_from m scope seen h (i ∷ is) =
    let a = answer_input m h i in
    seen_from m scope (seen_after scope seen i a.replies) (after h a) is

-- after those of a day
abbrev pub seen_on : Market → Scope → List Input → Seen
seen_on m scope is = seen_from m scope (unseen scope) no_history is

-- the names of the fields once what is sought is there
abbrev pub above : Form → Bool → List ℕ
above form there = if there then heading form else []

-- the names of the fields come with the row after which it is there
abbrev pub comes : Scope → Seen → Seen → Bool
comes scope before after = is_there scope after && not (is_there scope before)

-- a venue takes the input of a row, whose text is written, below the names of the fields if they come now; perhaps it
-- is nothing
pub record EmitsRow (form : Form) (scope : Scope) (r : TrailRow) (none : Bool) (known knows : Seen) (s s' : State) (before after : Option (List ℕ)) : Type 0 where
  pub input : Input
  pub answer : Answer
  pub emits : Emits r input
  pub takes : Takes s input answer s'
  pub seen : (h : History) → IsHistory s h → knows ≡ seen_after scope known input (answer_input s.market h input).replies
  pub written : (h : History) → IsHistory s h → Appends before after (above form (comes scope known knows) ++ emitted_at form s.market.participants scope knows r input (answer_input s.market h input).replies)
  pub nothing : (h : History) → IsHistory s h → none ≡ is_nothing (above form (comes scope known knows) ++ emitted_at form s.market.participants scope knows r input (answer_input s.market h input).replies)

-- a venue is where the inputs of these rows lead, this is known of what is sought, and their text was written, perhaps
-- nothing
pub record IsEmittedOf (form : Form) (m : Market) (scope : Scope) (rs : List TrailRow) (none : Bool) (known : Seen) (s : State) (before after : Option (List ℕ)) : Type 0 where
  pub items : List Input
  pub emitted : AreEmitted rs items
  pub stands : Stands m items s
  pub seen : known ≡ seen_on m scope items
  pub silent : is_there scope known ≡ false → emitted_on form m scope rs items ≡ []
  pub written : Appends before after (above form (is_there scope known) ++ emitted_on form m scope rs items)
  pub nothing : none ≡ is_nothing (above form (is_there scope known) ++ emitted_on form m scope rs items)

-- What was written are the answers of the run of the inputs of these rows, as far as they are sought, and no other
-- byte; of none a line, if they are lines. The order and the room that are sought are there.
pub record EmitsAnswers (form : Form) (m : Market) (scope : Scope) (rs : List TrailRow) (before after : Option (List ℕ)) : Type 0 where
  pub items : List Input
  pub emitted : AreOf rs items
  pub there : is_there scope (seen_on m scope items) ≡ true
  pub written : Appends before after (or_none form (answers form m scope rs items))

-- the text of the first rows was written, not of all, each whole, and no other byte
pub record BeginsRows (form : Form) (m : Market) (scope : Scope) (rs : List TrailRow) (before after : Option (List ℕ)) : Type 0 where
  pub count : ℕ
  pub few : count < length rs
  pub items : List Input
  pub emitted : AreEmitted (take count rs) items
  pub written : Appends before after (answers form m scope (take count rs) items)

-- no row of the run of the inputs of these rows is about the order that is sought
pub record HasNoOrder (m : Market) (scope : Scope) (rs : List TrailRow) : Type 0 where
  pub items : List Input
  pub emitted : AreOf rs items
  pub none : is_order_there scope (seen_on m scope items) ≡ false

-- no request of that run was sent in the room that is sought
pub record HasNoRoom (m : Market) (scope : Scope) (rs : List TrailRow) : Type 0 where
  pub items : List Input
  pub emitted : AreOf rs items
  pub none : is_room_there scope (seen_on m scope items) ≡ false

-- an allocation or a write failed
abbrev pub IsFailed : AnswersFault → Type 0
IsFailed Memory = ⊤
IsFailed Output = ⊤
IsFailed NoOrder = ⊥
IsFailed NoRoom = ⊥
