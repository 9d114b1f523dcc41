-- When a line ends a connection itself. Times are milliseconds, a heartbeat interval is seconds.
use Rattle.std.specs.Prelude.{◌≡◌, ◌⊎◌, ℕ, ◌+◌, ◌-◌, ◌*◌, ◌^◌, Bool, not, ◌&&◌, ◌||◌, if◌then◌else◌, List, [], ◌∷◌, ◌++◌, Option, Some, None, nat_le, nat_eq, min}
use Rattle.gateway.specs.declared.line.Read.{Read}
use Rattle.gateway.specs.declared.line.Read.TheVariants as read
use Rattle.gateway.specs.declared.piece.Given.TheVariants as gave
use Rattle.gateway.specs.Said.{Said, Gave}
use Rattle.tcp_line.specs.declared.events.ClockStep.{ClockStep}
use Rattle.tcp_line.specs.declared.events.ClockStep.TheVariants as step
use Rattle.tcp_line.specs.declared.line_watch.LineEnd.{LineEnd}
use Rattle.tcp_line.specs.declared.line_watch.LineEnd.TheVariants as ended
use Rattle.tcp_line.specs.declared.line_timer.Standing.{Standing}
use Rattle.tcp_line.specs.declared.line_timer.Fate.{Fate}
use Rattle.tcp_line.specs.declared.line_timer.Fate.TheVariants as fate
use Rattle.tcp_line.specs.declared.connection.Arrival.{Arrival}
use Rattle.tcp_line.specs.declared.connection.Arrival.TheVariants as arrival

-- a ResendRequest is overdue after 2.2 heartbeat intervals without progress, and after a minute where there are none
abbrev pub gap_limit : ℕ → ℕ
gap_limit heartbeat = if nat_eq heartbeat 0 then 60000 else min (heartbeat * 2200) (2 ^ 64 - 1)

-- no Logon for ten seconds
abbrev pub is_late : Standing → Bool
is_late standing = not standing.is_logged_on && nat_le 10000 standing.connected_ms

abbrev pub is_overdue : Standing → Bool
is_overdue standing = standing.is_outstanding && nat_le (gap_limit standing.heartbeat) standing.stuck_ms

abbrev pub end_of : Standing → Option LineEnd
end_of standing = if is_late standing then Some ended.NoLogon else if is_overdue standing then Some ended.GapOverdue else None

-- a connection ends by these times only after a read that gave nothing
abbrev pub end_after : Read → Standing → Option LineEnd
end_after read.Quiet standing = end_of standing
end_after (read.Got count) standing = None
end_after read.Ended standing = None
end_after read.Fault standing = None

-- between these accounts a connection was read once, and either gave nothing or had ended
abbrev pub GaveNothing : List Said → List Said → Type 0
GaveNothing old new = (new ≡ old ++ Gave gave.Quiet ∷ []) ⊎ (new ≡ old ++ Gave gave.Ended ∷ [])

-- nothing came for ten seconds
abbrev pub is_silent : ℕ → Bool
is_silent silent = nat_le 10000 silent

-- a newcomer takes the place of a silent connection once bytes came on it; it has ten seconds for them
abbrev pub fate_after : Arrival → ℕ → Fate
fate_after arrival.Bytes waited = fate.Served
fate_after arrival.Nothing waited = if nat_le 10000 waited then fate.Closed else fate.Waits
fate_after arrival.Ended waited = fate.Closed

-- it waits until a read of that connection gave nothing, since the peer that ended it may be the newcomer
abbrev pub fate_of : Bool → ℕ → Arrival → ℕ → Fate
fate_of quiet silent came waited =
    if not quiet then fate.Waits
    else if is_silent silent then fate_after came waited
    else fate.Closed

-- a venue that closes is at rest where nothing moved for half a second, and after two minutes
abbrev pub is_at_rest : ℕ → ℕ → Bool
is_at_rest closing quiet = nat_le 500 quiet || nat_le 120000 closing

-- a clock that is 2 seconds or more from where it was due has stepped by the difference
abbrev pub step_at : ℕ → ℕ → Option (ClockStep × ℕ)
step_at to due =
    if nat_le (min (due + 2000) (2 ^ 64 - 1)) to then Some (step.Forth, to - due)
    else if nat_le (min (to + 2000) (2 ^ 64 - 1)) due then Some (step.Back, due - to)
    else None

abbrev pub step_of : ℕ → ℕ → ℕ → Option (ClockStep × ℕ)
step_of from to passed = step_at to (min (from + passed) (2 ^ 64 - 1))
