-- The boards of a venue and the starts of its threads, as they are made.
use Rattle.std.specs.Prelude.{◌≡◌, Bool, List, length}
use Rattle.atomic_table.specs.Seated.{TableId}
use Rattle.fix_dictionary.specs.declared.messages.Item.{Item}
use Rattle.fix_session.specs.State.{Seen}
use Rattle.gateway.specs.Served.{Served}
use Rattle.intake_seats.specs.Ends.{AreHands, AreTakes, AreUnusedHands, AreUnusedTakes}
use Rattle.intake_seats.specs.Given.{HandEnd, TakeEnd}
use Rattle.participants.specs.ParticipantFile.{ParticipantFile}
use Rattle.venue_worker.specs.Turns.{AreTokensUntaken}
use Rattle.outbound_queue.specs.declared.outgoing.Outgoing.{Outgoing}
use Rattle.venue_runtime.specs.Starting.{AreNewSessions, AreStarts, SessionIo}

-- Three boards with a seat for each line, no end of which was used; a new session with each participant, after an
-- earlier process or not; and each thread starts with its session, its line and its ends.
pub record AreMade (restarted : Bool) (file : ParticipantFile) (lines : List SessionIo) (intake : TableId) (takes : List (TakeEnd Item)) (replies : TableId) (hands : List (HandEnd Outgoing)) (ends : TableId) (end_tokens : List (TakeEnd Unit)) (starts : List Served) : Type 0 where
  pub sessions : List Seen
  pub session_hands : List (HandEnd Item)
  pub session_takes : List (TakeEnd Outgoing)
  pub session_ends : List (HandEnd Unit)
  pub news : AreNewSessions restarted file (length lines) sessions
  pub begin : AreStarts sessions lines session_hands session_takes session_ends starts
  pub intake_seats : intake.words ≡ length lines
  pub intake_hands : AreHands intake session_hands × AreUnusedHands session_hands
  pub intake_takes : AreTakes intake takes × AreUnusedTakes takes
  pub reply_seats : replies.words ≡ length lines
  pub reply_hands : AreHands replies hands × AreUnusedHands hands
  pub reply_takes : AreTakes replies session_takes × AreUnusedTakes session_takes
  pub end_hands : AreHands ends session_ends
  pub end_takes : AreTakes ends end_tokens × AreTokensUntaken end_tokens
