use Rattle.std.proofs.Common.{refl}
use Rattle.fix_frame.specs.Frame.{trailer}
use Rattle.frame_explanation.proofs.frames.trailer.Goals as goal

pub returns : goal.returns
unfolding trailer
returns c = refl
