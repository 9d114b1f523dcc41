-- The state of a venue that ran and was closed.
use Rattle.std.specs.Prelude.{◌≡◌, ℕ, ◌<◌, true, Bool, List, ◌++◌, length, slice_get, Option, Some, None}
use Rattle.std.specs.Option.{option_to_list}
use Rattle.fix_dictionary.specs.declared.messages.App.{App}
use Rattle.fix_dictionary.specs.declared.messages.Item.{Item}
use Rattle.fix_session.specs.Sent.{numbered}
use Rattle.fix_session.specs.State.{State}
use Rattle.fix_session.specs.declared.comp_ids.CompIds.{CompIds}
use Rattle.gateway.specs.Closing.{IsTakenWhole, Reached}
use Rattle.gateway.specs.Said.{Said}
use Rattle.gateway.specs.Thread.{Thread}
use Rattle.gateway.specs.Whole.{HasLed, IsNew}
use Rattle.venue_core.specs.State.{VenueFacts}
use Rattle.venue_core.specs.VenueFacts.{IsStanding}
use Rattle.venue_rules.specs.Kept.{IsLastOf}
use Rattle.venue_rules.specs.Lawful.{Lawful}
use Rattle.venue_rules.specs.Limits.{moment_of}
use Rattle.venue_rules.specs.Market.{Market}
use Rattle.venue_rules.specs.Run.{Input, rows, run, is_timely_from}
use Rattle.venue_rules.specs.declared.trail.TrailRow.{TrailRow}
use Rattle.venue_worker.specs.InputHistory.{owed_to}
use Rattle.outbound_queue.specs.Taken.{items_from}
use Rattle.venue_worker.specs.Inputs.{AreRising, Each, IsSeated}
use Rattle.venue_worker.specs.Turns.{IsMomentOf}
use Rattle.outbound_queue.specs.declared.outgoing.Outgoing.{Outgoing}
use Rattle.outbound_queue.specs.declared.queue.Queue.{Queue}
use Rattle.venue_runtime.specs.Starting.{SessionIo, ids_at}

-- one participant's part of the closing: its session, its line's account, what is left in both its seats, and its queue
pub record Side : Type 0 where
  pub session : State
  pub said : List Said
  pub left : Option Item
  pub reply_left : Option Outgoing
  pub queue : Queue

-- The turns of one participant's thread, from a new session on this line, which an earlier process may have numbered
-- where `restarted` says so; the messages taken of it, then the one left
-- in its seat, then those ready, are what its heard frames spell; and the replies numbered for it, then the one left in
-- its seat, then its queue, are what it is owed, or, where it was cut, a first part of that, which is more than 64,000
-- replies.
pub record IsServed (turns : ℕ) (restarted : Bool) (ids : CompIds) (line : SessionIo) (taken : List Item) (owed : List App) (side : Side) : Type 0 where
  pub start : Thread
  pub finish : Thread
  pub passed : List Bool
  pub emitted : List ℕ
  pub led : HasLed turns start finish line.passed passed line.emitted emitted
  pub begins : IsNew start
  pub restarted_is : start.session.line.restarted ≡ restarted
  pub names : start.session.ids ≡ ids
  pub bare : start.kept ≡ None
  pub said : start.said ≡ line.said
  pub session_is : finish.session ≡ side.session
  pub said_is : finish.said ≡ side.said
  pub whole : IsTakenWhole start led.turn_records side.session taken side.left
  pub reached : Reached owed (numbered side.session) (option_to_list side.reply_left) side.queue.waiting.items side.queue.is_cut
  pub cut : side.queue.is_cut ≡ true → 64000 < length owed

-- a closing: of each participant in order its session, its line's account, what is left in its seats and its queue; the
-- venue's state, and the keeper's rows and whether its store is clean
pub record Closing : Type 0 where
  pub sessions : List State
  pub said : List (List Said)
  pub left : List (Option Item)
  pub replies_left : List (Option Outgoing)
  pub queues : List Queue
  pub stands : VenueFacts
  pub rows : List TrailRow
  pub is_clean : Bool

abbrev pub closing : List State → List (List Said) → List (Option Item) → List (Option Outgoing) → List Queue → VenueFacts → List TrailRow → Bool → Closing
closing sessions said left replies_left queues stands rows is_clean = record {
  sessions = sessions;
  said = said;
  left = left;
  replies_left = replies_left;
  queues = queues;
  stands = stands;
  rows = rows;
  is_clean = is_clean;
}

-- the k-th participant's part of the closing
pub record IsSide (c : Closing) (k : ℕ) (side : Side) : Type 0 where
  pub session : slice_get c.sessions k ≡ Some side.session
  pub said : slice_get c.said k ≡ Some side.said
  pub left : slice_get c.left k ≡ Some side.left
  pub reply_left : slice_get c.replies_left k ≡ Some side.reply_left
  pub queue : slice_get c.queues k ≡ Some side.queue

-- one of each for each participant
pub record AreCounted (count : ℕ) (c : Closing) : Type 0 where
  pub sessions : length c.sessions ≡ count
  pub said : length c.said ≡ count
  pub left : length c.left ≡ count
  pub replies_left : length c.replies_left ≡ count
  pub queues : length c.queues ≡ count

-- A venue that ran from these rows on these lines, by a worker's clock, and was closed: there are the inputs of the
-- rows, and those that the worker added, in order. `restarted`: its rows outlive the process, so that an earlier one
-- may have numbered messages of its sessions.
pub record HasClosed (turns : ℕ) (m : Market) (kept : List TrailRow) (restarted : Bool) (lines : List SessionIo) (emitted emitted' : List ℕ) (c : Closing) : Type 0 where
  pub before : List Input
  pub since : List Input
  pub began : kept ≡ rows before
  -- the rows are theirs, where the store is clean, and the venue is where they lead
  pub recorded : c.is_clean ≡ true → c.rows ≡ rows (before ++ since)
  pub stands : IsStanding c.stands (run m (before ++ since)).history
  -- each tick that was added found a side due, and no message did; each message is from a participant
  pub timely : is_timely_from m (run m before).history since ≡ true
  pub seated : Each (IsSeated (length lines)) since
  -- the moment of each is one that the clock answered, or the last before, where one that it answered is no later
  pub moments : List ℕ
  pub clock : emitted' ≡ emitted ++ moments
  pub number : ℕ
  pub last : ℕ
  pub last_is : IsLastOf kept number last
  pub answered : Each (λ (i : Input). IsMomentOf last moments (moment_of i)) since
  pub rising : AreRising (before ++ since)
  -- all that the venue did is lawful
  pub lawful : Lawful m (before ++ since)
  pub counted : AreCounted (length lines) c
  pub each : (k : ℕ) (line : SessionIo) (side : Side) → slice_get lines k ≡ Some line → IsSide c k side
      → IsServed turns restarted (ids_at m.participants k) line (items_from k since) (owed_to m before since k) side
