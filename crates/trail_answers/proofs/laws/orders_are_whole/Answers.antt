use Rattle.trail_answers.proofs.Whole as whole
use Rattle.trail_answers.proofs.laws.orders_are_whole.Goals as goal

pub returns : goal.returns
returns c = whole.orders_are_whole
