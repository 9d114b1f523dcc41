-- The model of a session with all that its thread has, and the result of its thread.
use Rattle.std.specs.Prelude.{◌≡◌, ℕ, List, [], ◌∷◌, length, slice_get, Bool, None, Some}
use Rattle.atomic_table.specs.Seated.{TableId}
use Rattle.intake_seats.specs.Ends.{IsSameHander}
use Rattle.intake_seats.specs.Given.{HandEnd, TakeEnd}
use Rattle.fix_dictionary.specs.declared.messages.Item.{Item}
use Rattle.fix_session.specs.State.{Seen}
use Rattle.outbound_queue.specs.declared.outgoing.Outgoing.{Outgoing}
use Rattle.gateway.specs.Said.{Said}
use Rattle.gateway.specs.Thread.{Thread, at_start}
use Rattle.gateway.specs.Whole.{HasLed}

-- the session with its line and its seats, what its gate and its clock answered, and the seat of its end token
pub record Served : Type 0 where
  pub thread : Thread
  pub passed : List Bool
  pub emitted : List ℕ
  pub end : HandEnd Unit

abbrev pub served : Seen → List Said → List ℕ → List Bool → HandEnd Item → TakeEnd Outgoing → HandEnd Unit → Served
served session said emitted passed hand take end = record { thread = at_start session hand take said; passed = passed; emitted = emitted; end = end }

-- the ends are those of the three boards, and nothing is in hand
abbrev pub IsReady : TableId → TableId → TableId → Served → Type 0
IsReady intake replies ends s = (s.thread.hand.board ≡ intake) × (s.thread.take.board ≡ replies) × (s.end.board ≡ ends) × (s.thread.take.in_hand ≡ None)

-- `turns` turns lead from start to end, nothing is in hand, and the end token was handed, once
pub record HasServed (turns : ℕ) (start end : Served) : Type 0 where
  pub led : HasLed turns start.thread end.thread start.passed end.passed start.emitted end.emitted
  pub free : end.thread.take.in_hand ≡ None
  pub seat : IsSameHander start.end end.end
  pub end_handed : start.end.given ≡ [] → end.end.given ≡ tt ∷ []

-- each from its start
pub record AreServed (turns : ℕ) (starts ends : List Served) : Type 0 where
  pub count : length ends ≡ length starts
  pub each : (k : ℕ) (start end : Served) → slice_get starts k ≡ Some start → slice_get ends k ≡ Some end → HasServed turns start end

-- the start of a thread: its turns, and the state before them
abbrev pub begun : ℕ → Served → ℕ × Served
begun turns start = (turns, start)
