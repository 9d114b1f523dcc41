-- The bytes that a step leaves unread.
use Rattle.std.proofs.Common.{ℕ, ◌≤◌, ◌<◌, ◌%◌, sum, List, length, drop, max, Bool, true, false, if◌then◌else◌, Option, Some, None, ap, length-append, length-drop, arith}
use Rattle.fix_frame.specs.Frame.{counted, trailer}
use Rattle.fix_frame.specs.Stream.{Begins}
use Rattle.fix_session.specs.Body.{frame_in}
use Rattle.fix_session.specs.Machine.{moved, plan_for, step, step_on}
use Rattle.fix_session.specs.Reader.{Reader, Stands, settled}
use Rattle.fix_session.specs.Shorter.{Shortens}
use Rattle.fix_session.specs.State.{State}
use Rattle.fix_session.specs.declared.plan.Step.{Step}
use Rattle.fix_session.specs.declared.plan.Step.TheVariants.{Idle, Did, App as Ready, Dropped}

shortens : (answer : Step) (before after : ℕ) → after < before → Shortens answer before after
shortens Idle before after less = omega arith
shortens Did before after less = less
shortens (Ready n) before after less = less
shortens (Dropped reason) before after less = less

trailer_is_some : (checksum : ℕ) → 1 ≤ length (trailer checksum)
unfolding trailer
trailer_is_some checksum = omega arith

-- a frame has at least one byte
begun : (s body after : List ℕ) → Begins s body after → length after < length s
begun s body after b =
    let front = counted b.is_frame.digits body in
    let end = trailer (sum front % 256) in
    let text = ap (λ (l : List ℕ). length l) b.is_frame.whole in
    let split = ap (λ (l : List ℕ). length l) b.split in
    omega (arith, split, length-append b.text after, text, length-append front end, trailer_is_some (sum front % 256))

abbrev LeavesLess : State → State × Step → Type 0
LeavesLess s out = Shortens out.1 (length s.unread) (length out.0.unread)

on_shortens : (r : Reader) (s : State) (t : ℕ) (passed : ℕ) (found : Option (List ℕ × List ℕ)) → Stands (drop passed s.unread) found → LeavesLess s (step_on r s t found)
on_shortens r s t passed None is_outstanding = omega arith
on_shortens r s t passed (Some found) is_outstanding =
    let less = begun (drop passed s.unread) found.0 found.1 is_outstanding in
    let rest = length-drop (r.front found.1).passed found.1 in
    shortens (plan_for s (frame_in r s.ids found.0)).answer (length s.unread) (length (settled r found.1)) (omega (arith, less, rest, length-drop passed s.unread))

shortens_if : (s : State) (up : Bool) (x y : State × Step) → LeavesLess s x → LeavesLess s y → LeavesLess s (if up then x else y)
shortens_if s true x y p q = p
shortens_if s false x y p q = q

pub steps_shorten : (r : Reader) (s : State) (t : ℕ) → LeavesLess s (step r s t)
steps_shorten r s t =
    let at : ℕ = max s.line.moment t in
    shortens_if s s.line.up (step_on r s at (r.front s.unread).found) (moved s at, Idle)
    (on_shortens r s at (r.front s.unread).passed (r.front s.unread).found (r.is_front s.unread).is_outstanding)
    (omega arith)
