use Rattle.std.proofs.Common.{ℕ, ◌+◌, ◌≤◌, length, drop, arith, length-drop}
use Rattle.std.proofs.lemmas.List.{take_rest}
use Rattle.fix_frame.specs.Stream.{IsOpen}
use Rattle.fix_frame.proofs.Starts.{open_is_long, never_before, never_through, IsOpen-from_look}
use Rattle.fix_frame.proofs.garbage.pass_garbage.Goals as goal

pub loop-look-init : goal.loop-look-init
loop-look-init c = record {
  inside = open_is_long c.args.bytes.now 0 (omega arith) c.requires;
  never = never_through c.args.bytes.now 0 (λ k below. absurd (omega arith)) c.requires;
}

pub returns-in_default : goal.returns-in_default
returns-in_default c =
    let s = c.args.bytes.now in
    let p : ℕ = c.loop-look.passed + 1 + c.first_eight-passed.result in
    let eight = rw (take_rest s (c.loop-look.passed + 1)) at c.first_eight-passed.ensures in
    let look = rw (take_rest s p) at c.look_at.ensures in
    let fits : p ≤ length s = omega (arith, eight.within, length-drop (c.loop-look.passed + 1) s) in
    record {
      some = omega arith;
      look = look;
      passes = record { within = fits; never = never_before s c.loop-look.passed c.first_eight-passed.result c.loop-look.invariant.never fits eight.before };
      «open» = IsOpen-from_look (drop p s) c.look_at.result look c.in_default.not-Nothing;
    }

pub loop-look-preserved : goal.loop-look-preserved
loop-look-preserved c =
    let s = c.args.bytes.now in
    let p : ℕ = c.loop-look.passed + 1 + c.first_eight-passed.result in
    let eight = rw (take_rest s (c.loop-look.passed + 1)) at c.first_eight-passed.ensures in
    let closed : IsOpen (drop p s) → ⊥ = rw (← take_rest s p) c.in-Nothing.ensures in
    let fits : p ≤ length s = omega (arith, eight.within, length-drop (c.loop-look.passed + 1) s) in
    record {
      inside = open_is_long s p fits closed;
      never = never_through s p (never_before s c.loop-look.passed c.first_eight-passed.result c.loop-look.invariant.never fits eight.before) closed;
    }
