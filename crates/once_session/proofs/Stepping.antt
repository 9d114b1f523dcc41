-- The messages that a step of the session makes ready.
use Rattle.std.proofs.Common.{ℕ, ◌+◌, ◌≤◌, List, length, max, Bool, true, false, if◌then◌else◌, Option, Some, None, length-append, arith}
use Rattle.fix_session.specs.Body.{frame_in, kind_in}
use Rattle.fix_session.specs.Machine.{heard_frame, item_of, moved, plan_for, step, step_on}
use Rattle.fix_session.specs.Reader.{Reader, settled}
use Rattle.fix_session.specs.State.{State, era_of}
use Rattle.fix_session.specs.declared.frame.Content.{Content}
use Rattle.fix_session.specs.declared.frame.Content.TheVariants as content
use Rattle.fix_session.specs.declared.frame.Frame.{Frame}
use Rattle.fix_session.specs.declared.plan.Step.{Step}
use Rattle.fix_session.specs.declared.plan.Step.TheVariants.{Idle, Did, App as Ready, Dropped}

item_is_one : (era : ℕ) (said : Content) (answer : Step) → length (item_of era said answer) ≤ 1
item_is_one era (content.Application app) Idle = omega arith
item_is_one era (content.Application app) Did = omega arith
item_is_one era (content.Application app) (Ready n) = omega arith
item_is_one era (content.Application app) (Dropped reason) = omega arith
item_is_one era (content.Logon heartbeat reset) answer = omega arith
item_is_one era content.Heartbeat answer = omega arith
item_is_one era (content.TestRequest id) answer = omega arith
item_is_one era (content.ResendRequest asked) answer = omega arith
item_is_one era content.Reject answer = omega arith
item_is_one era (content.SequenceReset gap_fill new) answer = omega arith
item_is_one era content.Logout answer = omega arith
item_is_one era (content.Faulty kind fault) answer = omega arith

heard_one : (s : State) (t : ℕ) (rest kind : List ℕ) (f : Frame) → length (heard_frame s t rest kind f).0.ready ≤ length s.ready + 1
heard_one s t rest kind f =
    let plan = plan_for s f in
    omega (arith, length-append s.ready (item_of (era_of s.past) f.content plan.answer), item_is_one (era_of s.past) f.content plan.answer)

on_one : (r : Reader) (s : State) (t : ℕ) (found : Option (List ℕ × List ℕ)) → length (step_on r s t found).0.ready ≤ length s.ready + 1
on_one r s t None = omega arith
on_one r s t (Some found) = heard_one s t (settled r found.1) (kind_in found.0) (frame_in r s.ids found.0)

if_one : (s : State) (up : Bool) (x y : State × Step) → length x.0.ready ≤ length s.ready + 1 → length y.0.ready ≤ length s.ready + 1 → length (if up then x else y).0.ready ≤ length s.ready + 1
if_one s true x y p q = p
if_one s false x y p q = q

pub one_more_ready : (r : Reader) (s : State) (t : ℕ) → length (step r s t).0.ready ≤ length s.ready + 1
one_more_ready r s t =
    let at : ℕ = max s.line.moment t in
    if_one s s.line.up (step_on r s at (r.front s.unread).found) (moved s at, Idle) (on_one r s at (r.front s.unread).found) (omega arith)
