-- What a turn reports, as a function of what was done in it.
use Rattle.std.specs.Prelude.{ℕ, ◌+◌, List, [], ◌∷◌, length, Bool, true, false, not, ◌&&◌, ◌||◌, if◌then◌else◌, Option, Some, None, nat_le, nat_eq}
use Rattle.fix_session.specs.declared.session_state.SessionState.{SessionState}
use Rattle.fix_session.specs.State.{State, era_of}
use Rattle.gateway.specs.declared.notice.Notice.{Notice}
use Rattle.gateway.specs.declared.notice.Notice.TheVariants as notice
use Rattle.gateway.specs.declared.notice.SessionReport.{SessionReport}
use Rattle.gateway.specs.declared.line.Accept.{Accept}
use Rattle.gateway.specs.declared.line.Accept.TheVariants as accept
use Rattle.gateway.specs.declared.piece.Given.{Given}
use Rattle.gateway.specs.declared.piece.Given.TheVariants as gave
use Rattle.gateway.specs.declared.stepping.StepsEnd.{StepsEnd}
use Rattle.gateway.specs.declared.stepping.StepsEnd.TheVariants as ends
use Rattle.gateway.specs.declared.turn.CollectOutcome.{CollectOutcome}
use Rattle.gateway.specs.declared.turn.CollectOutcome.TheVariants as collect
use Rattle.gateway.specs.declared.turn.WriteOutcome.{WriteOutcome}
use Rattle.gateway.specs.declared.turn.WriteOutcome.TheVariants as wrote
use Rattle.gateway.specs.declared.turn.Reading.{Reading}
use Rattle.gateway.specs.declared.turn.Reading.TheVariants as reading
use Rattle.gateway.specs.declared.turn.HandOutcome.{HandOutcome}
use Rattle.gateway.specs.declared.turn.HandOutcome.TheVariants as handed
use Rattle.gateway.specs.declared.turn.TickOutcome.{TickOutcome}
use Rattle.gateway.specs.declared.turn.TickOutcome.TheVariants as ticked
use Rattle.gateway.specs.declared.turn.Stepped.{Stepped}
use Rattle.gateway.specs.declared.turn.Work.{Work}
use Rattle.gateway.specs.declared.turn.Turn.{Turn}

-- the parts of a session's state that notices report
abbrev pub report_of : State → SessionReport
report_of s = record { line = s.line; outgoing = length s.entries + 1; era = era_of s.past }

abbrev pub of_accepted : Option Accept → Option Notice
of_accepted (Some accept.Up) = Some notice.Connected
of_accepted (Some accept.Fault) = Some notice.LineFault
of_accepted (Some accept.Quiet) = None
of_accepted (Some accept.Over) = None
of_accepted None = None

abbrev pub of_collected : Option CollectOutcome → Option Notice
of_collected (Some collect.Cut) = Some notice.Cut
of_collected (Some (collect.Sent app)) = Some notice.Sent
of_collected (Some collect.Nothing) = None
of_collected (Some (collect.Refused app fault)) = None
of_collected None = None

abbrev pub of_wrote : WriteOutcome → Option Notice
of_wrote wrote.Fault = Some notice.LineFault
of_wrote wrote.Nothing = None
of_wrote wrote.All = None

abbrev pub of_given : Given → Option Notice
of_given gave.Ended = Some notice.LineEnded
of_given gave.Fault = Some notice.LineFault
of_given (gave.Got piece) = None
of_given gave.Quiet = None

abbrev pub of_reading : Option Reading → Option Notice
of_reading (Some (reading.Answered given)) = of_given given
of_reading (Some reading.Plenty) = None
of_reading (Some (reading.Kept piece)) = None
of_reading None = None

-- What the steps of a turn report, by the session's state before them and after them

abbrev pub of_era : SessionReport → SessionReport → Option Notice
of_era before after = if nat_eq before.era after.era then None else Some (notice.EraBegun after.era)

-- the steps dropped a line whose Logon had been accepted
abbrev pub was_logged_on : StepsEnd → Bool
was_logged_on (ends.Dropped why on fault) = on
was_logged_on ends.Idle = false
was_logged_on ends.Refused = false

-- a Logon was accepted
abbrev pub has_logged_on : Stepped → Bool
has_logged_on stepped = not stepped.before.line.logged_on && (stepped.after.line.logged_on || was_logged_on stepped.end)

abbrev pub of_logon : Stepped → Option Notice
of_logon stepped =
    if has_logged_on stepped
    then Some (notice.LoggedOn stepped.after.line.next_incoming stepped.after.outgoing stepped.after.line.heartbeat stepped.after.era)
    else None

-- a ResendRequest that a frame of this number raised is not yet satisfied
abbrev pub is_outstanding : Option ℕ → ℕ → Bool
is_outstanding None expected = false
is_outstanding (Some number) expected = nat_le expected number

-- an outstanding ResendRequest that is another than before
abbrev pub is_raised : Option ℕ → Option ℕ → ℕ → Bool
is_raised None before expected = false
is_raised (Some number) None expected = nat_le expected number
is_raised (Some number) (Some earlier) expected = not (nat_eq earlier number) && nat_le expected number

abbrev pub of_gap : SessionReport → SessionReport → Option Notice
of_gap before after =
    if is_raised after.line.outstanding_request before.line.outstanding_request after.line.next_incoming
    then Some (notice.GapRequested after.line.next_incoming)
    else None

-- a request was raised or satisfied, or the number expected moved under it
abbrev pub has_progressed : Bool → Bool → Bool → Bool
has_progressed was_outstanding outstanding same = if outstanding then not was_outstanding || not same else was_outstanding

-- the request of a line is outstanding
abbrev pub is_waiting : SessionState → Bool
is_waiting line = is_outstanding line.outstanding_request line.next_incoming

abbrev pub of_progress : SessionReport → SessionReport → Option Notice
of_progress before after =
    if has_progressed (is_waiting before.line) (is_waiting after.line) (nat_eq before.line.next_incoming after.line.next_incoming)
    then Some (notice.Progress after.line.next_incoming (is_waiting after.line))
    else None

-- the next numbers are reported in each turn
abbrev pub of_numbers : SessionReport → Option Notice
of_numbers after = Some (notice.Numbers after.line.next_incoming after.outgoing)

-- a drop is reported as the state machine answered it
abbrev pub of_drop : StepsEnd → Option Notice
of_drop (ends.Dropped why on fault) = Some (notice.Dropped why on fault)
of_drop ends.Idle = None
of_drop ends.Refused = None

abbrev pub of_handed : HandOutcome → Option Notice
of_handed handed.Given = Some notice.Taken
of_handed handed.Nothing = None
of_handed handed.Refused = None

abbrev pub of_tick : TickOutcome → Option Notice
of_tick (ticked.Dropped why on) = Some (notice.Dropped why on None)
of_tick ticked.Done = None
of_tick ticked.Refused = None

-- What a turn reports, in order

abbrev pub of_connection : Turn → List (Option Notice)
of_connection turn = of_accepted turn.accepted ∷ of_collected turn.collected ∷ []

abbrev pub of_work : Work → List (Option Notice)
of_work work =
    of_wrote work.wrote ∷ of_reading work.reading ∷ of_era work.stepped.before work.stepped.after ∷ of_logon work.stepped ∷ of_gap work.stepped.before work.stepped.after
    ∷ of_progress work.stepped.before work.stepped.after ∷ of_numbers work.stepped.after ∷ of_drop work.stepped.end ∷ of_wrote work.stepped.wrote ∷ of_handed work.handed ∷ of_tick work.beat.ticked ∷ of_wrote work.beat.wrote ∷ []

-- what the end of the turns reports
abbrev pub of_end : SessionReport → Notice
of_end report = notice.Ended report.line.next_incoming report.outgoing report.era
