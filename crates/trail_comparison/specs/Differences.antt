-- The rows to which two venues reply differently, where both take the inputs of the same rows; or where the second
-- leaves out those of a participant, which are not compared.
use Rattle.std.specs.Prelude.{◌≡◌, ℕ, ◌==◌, ◌≤◌, List, [], ◌∷◌, ◌++◌, length, take, Option, None, codes, decimal, if◌then◌else◌}
use Rattle.std.specs.List.{flat_map}
use Rattle.std.specs.Io.KnownBytes.{Appends}
use Rattle.participants.specs.ParticipantFile.{ParticipantFile}
use Rattle.venue_rules.specs.declared.replies.Reply.{Reply}
use Rattle.venue_rules.specs.declared.trail.TrailRow.{TrailRow}
use Rattle.venue_rules.specs.Answer.{Answer}
use Rattle.venue_rules.specs.Facts.{History, no_history}
use Rattle.venue_rules.specs.Market.{Market}
use Rattle.venue_rules.specs.Run.{Input, after, answer_input}
use Rattle.venue_core.specs.Replay.{AreEmitted, Emits}
use Rattle.venue_core.specs.State.{State}
use Rattle.venue_core.specs.Taking.{Stands, Takes}
use Rattle.venue_core.specs.VenueFacts.{IsHistory}
use Rattle.row_replay.specs.Inputs.{AreOf}
use Rattle.trail_comparison.specs.Lines.{came_text, label_a, label_b, replies_text}
use Rattle.trail_comparison.specs.Sent.{are_same}
use Rattle.trail_comparison.specs.Without.{count_shared, is_shared, shared_inputs}

-- a row, its input, and the two venues' replies
pub record Difference : Type 0 where
  pub row : TrailRow
  pub input : Input
  pub one : List Reply
  pub other : List Reply

-- a row is listed where its replies differ
abbrev pub difference_at : (one other : ParticipantFile) → TrailRow → Input → (rs ss : List Reply) → List Difference
difference_at one other r i rs ss = if are_same one other rs ss then [] else (record { row = r; input = i; one = rs; other = ss } ∷ [])

-- the rows that are listed, from a history of each venue on: the replies are the rules' answers to each row's input
abbrev pub differences_from : (left : Option ℕ) → (m n : Market) → (h k : History) → List TrailRow → List Input → List Difference
differences_from left m n h k [] is = []
differences_from left m n h k (r ∷ rs) [] = []
differences_from left m n h k (r ∷ rs) (i ∷ is) =
    let a = answer_input m h i in
    let b = answer_input n k i in
    if is_shared left r then (difference_at m.participants n.participants r i a.replies b.replies ++ differences_from left m n (after h a) (after k b) rs is)
    else differences_from left m n (after h a) k rs is

-- and on a day
abbrev pub differences : (left : Option ℕ) → (m n : Market) → List TrailRow → List Input → List Difference
differences left m n rs is = differences_from left m n no_history no_history rs is

-- the row, and the replies to it
abbrev pub difference_text : (one other : ParticipantFile) → Difference → List ℕ
difference_text one other d = came_text one other d.row d.input ++ replies_text label_a one d.row d.one ++ replies_text label_b other d.row d.other

abbrev pub differences_text : (m n : Market) → List Difference → List ℕ
differences_text m n ds = flat_map (difference_text m.participants n.participants) ds

-- how many of the shared rows have other answers
abbrev pub have : ℕ → List ℕ
have count = if count == 1 then codes " has others\n" else codes " have others\n"

abbrev pub count_pieces : ℕ → ℕ → List (List ℕ)
count_pieces count rows = codes "answers: " ∷ decimal count ∷ codes " of " ∷ decimal rows ∷ codes " shared rows" ∷ have count ∷ []

abbrev pub none_pieces : ℕ → List (List ℕ)
none_pieces rows = codes "answers: each of " ∷ decimal rows ∷ codes " shared rows has the same\n" ∷ []

-- no row has others: of some, or because there is none
abbrev pub none_line : ℕ → List ℕ
none_line rows = if rows == 0 then codes "answers: no row is shared, none is compared\n" else flat_map (λ (p : List ℕ). p) (none_pieces rows)

unfoldable pub count_line : ℕ → ℕ → List ℕ
count_line count rows = if count == 0 then none_line rows else flat_map (λ (p : List ℕ). p) (count_pieces count rows)

-- each row that has other answers, and their count
abbrev pub answers_text : (left : Option ℕ) → (m n : Market) → List TrailRow → List Input → List ℕ
answers_text left m n rs is = differences_text m n (differences left m n rs is) ++ count_line (length (differences left m n rs is)) (count_shared left rs)

-- Both venues take the input of a row, and it is written where their replies differ.
pub record EmitsRow (r : TrailRow) (count : ℕ) (s s' t t' : State) (before after : Option (List ℕ)) : Type 0 where
  pub input : Input
  pub answer : Answer
  pub other : Answer
  pub emits : Emits r input
  pub takes : Takes s input answer s'
  pub takes_too : Takes t input other t'
  pub counted : (h k : History) → IsHistory s h → IsHistory t k
      → count ≡ length (difference_at s.market.participants t.market.participants r input (answer_input s.market h input).replies (answer_input t.market k input).replies)
  pub written : (h k : History) → IsHistory s h → IsHistory t k
      → Appends before after (differences_text s.market t.market (difference_at s.market.participants t.market.participants r input (answer_input s.market h input).replies (answer_input t.market k input).replies))

-- The first venue is where the inputs of these rows lead, the second where those lead that it takes, and the rows that
-- differ were written.
pub record AreReplayed (left : Option ℕ) (m n : Market) (rs : List TrailRow) (count : ℕ) (s t : State) (before after : Option (List ℕ)) : Type 0 where
  pub items : List Input
  pub emitted : AreEmitted rs items
  pub stands : Stands m items s
  pub stands_too : Stands n (shared_inputs left items) t
  pub counted : count ≡ length (differences left m n rs items)
  pub written : Appends before after (differences_text m n (differences left m n rs items))

-- Of the first rows, not of more, those that differ were written, and no other byte.
pub record BeginsRows (left : Option ℕ) (m n : Market) (rs : List TrailRow) (before after : Option (List ℕ)) : Type 0 where
  pub count : ℕ
  pub few : count ≤ length rs
  pub items : List Input
  pub emitted : AreEmitted (take count rs) items
  pub written : Appends before after (differences_text m n (differences left m n (take count rs) items))

-- The text is that of the answers of both runs of these rows' inputs.
pub record AreAnswers (m n : Market) (rs : List TrailRow) (text : List ℕ) : Type 0 where
  pub items : List Input
  pub emitted : AreOf rs items
  pub is : text ≡ answers_text None m n rs items

-- and was written
pub record EmitsAnswers (m n : Market) (rs : List TrailRow) (before after : Option (List ℕ)) : Type 0 where
  pub text : List ℕ
  pub are : AreAnswers m n rs text
  pub written : Appends before after text
