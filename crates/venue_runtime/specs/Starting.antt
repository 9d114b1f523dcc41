-- The starts of the threads of a venue's sessions.
use Rattle.std.specs.Prelude.{◌≡◌, ℕ, ◌<◌, List, map, length, slice_get, Bool, None, Some}
use Rattle.fix_dictionary.specs.declared.messages.Item.{Item}
use Rattle.fix_session.specs.State.{State, Seen, begun}
use Rattle.fix_session.specs.declared.comp_ids.CompIds.{CompIds}
use Rattle.gateway.specs.Said.{Said}
use Rattle.gateway.specs.Served.{Served}
use Rattle.intake_seats.specs.Given.{HandEnd, TakeEnd}
use Rattle.participants.specs.ParticipantFile.{ParticipantFile}
use Rattle.participants.specs.Relations.{name_of}
use Rattle.outbound_queue.specs.declared.outgoing.Outgoing.{Outgoing}

-- the CompIDs on what the venue and the k-th participant write to each other
abbrev pub ids_at : ParticipantFile → ℕ → CompIds
ids_at file k = record { own = file.venue; peer = name_of file k }

-- a new session with each of `count` participants, after an earlier process or not
pub record AreNewSessions (restarted : Bool) (file : ParticipantFile) (count : ℕ) (sessions : List Seen) : Type 0 where
  pub long : length sessions ≡ count
  pub each : (k : ℕ) (s : Seen) → slice_get sessions k ≡ Some s → s.state ≡ begun restarted (ids_at file k)

-- the outside of a session's thread: the accounts of its line, its clock and its gate
pub record SessionIo : Type 0 where
  pub said : List Said
  pub emitted : List ℕ
  pub passed : List Bool

abbrev pub outside : List Said → List ℕ → List Bool → SessionIo
outside said emitted passed = record { said = said; emitted = emitted; passed = passed }

-- each session has the outside and the ends of the boards at its place, and keeps no piece
pub record AreStarts (sessions : List Seen) (lines : List SessionIo) (hands : List (HandEnd Item)) (takes : List (TakeEnd Outgoing)) (ends : List (HandEnd Unit)) (starts : List Served) : Type 0 where
  pub states : map (λ (s : Served). s.thread.session) starts ≡ map (λ (s : Seen). s.state) sessions
  pub outsides : map (λ (s : Served). outside s.thread.said s.emitted s.passed) starts ≡ lines
  pub hands_are : map (λ (s : Served). s.thread.hand) starts ≡ hands
  pub takes_are : map (λ (s : Served). s.thread.take) starts ≡ takes
  pub end_tokens : map (λ (s : Served). s.end) starts ≡ ends
  pub kept : (k : ℕ) (s : Served) → slice_get starts k ≡ Some s → s.thread.kept ≡ None
