use Rattle.std.proofs.Common.{◌≡◌, ◌++◌, take}
use Rattle.std.specs.List.{flat_map}
use Rattle.fix_session.specs.Reader.{Reader}
use Rattle.frame_explanation.specs.Text.{reply_found}
use Rattle.frame_explanation.proofs.text.append_frames.Given as goal

abbrev pub invariant-loop-one : goal.invariant-loop-one
invariant-loop-one l = (r : Reader) → l.out.items ≡ l.fn.out.items ++ flat_map (reply_found r l.name l.bytes) (take l.one-index l.found)
