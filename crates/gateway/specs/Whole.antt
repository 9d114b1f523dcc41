-- The whole run of a session's thread.
use Rattle.std.specs.Prelude.{ℕ, ◌≡◌, List, [], ◌++◌, Bool, Option}
use Rattle.fix_session.specs.Reader.{Reader}
use Rattle.fix_session.specs.Chain.{accepted}
use Rattle.fix_session.specs.Sent.{numbered}
use Rattle.fix_session.specs.State.{begun}
use Rattle.gateway.specs.Thread.{Thread, TurnRecord, Loops, standing, events_of, gates, moments}
use Rattle.gateway.specs.Calls.{heard_of, without_cuts}
use Rattle.gateway.specs.Said.{faults_in}
use Rattle.gateway.specs.Faults.{TookAll}
use Rattle.gateway.specs.Offered.{AreFirstParts, connections}

-- a new session at seats that were not used, after an earlier process or not
pub record IsNew (start : Thread) : Type 0 where
  pub session : start.session ≡ begun start.session.line.restarted start.session.ids
  pub given : start.hand.given ≡ []
  pub collected : start.take.taken ≡ []

-- the state after these turns of a new session: the messages given, then those ready, are what its heard frames spell,
-- and the replies numbered for its counterparty are those collected, the sentinel aside
pub record Spells (r : Reader) (start : Thread) (turn_records : List TurnRecord) (end : Thread) : Type 0 where
  pub accepted : end.hand.given ++ end.session.ready ≡ accepted (heard_of r start.session (events_of turn_records))
  pub numbered : numbered end.session ≡ without_cuts end.take.taken

-- `turns` turns lead from start to end, but for the piece that was kept last; the gate and the clock answered once in
-- each
pub record HasLed (turns : ℕ) (start end : Thread) (passed passed' : List Bool) (emitted emitted' : List ℕ) : Type 0 where
  pub turn_records : List TurnRecord
  pub kept : Option (List ℕ)
  pub loops : (r : Reader) → Loops r turns turn_records start (record end { kept = kept })
  -- where the line reported no fault, it took all that it was offered
  pub took : faults_in end.said ≡ faults_in start.said → TookAll (events_of turn_records)
  -- on each connection the line was offered a first part of what was queued there
  pub offered : (r : Reader) → start.session.wire ≡ [] → AreFirstParts (connections r (events_of turn_records) (standing start)) end.session.wire
  pub at_gate : passed' ≡ passed ++ gates turn_records
  pub at_clock : emitted' ≡ emitted ++ moments turn_records
  pub spells : (r : Reader) → IsNew start → Spells r start turn_records end
