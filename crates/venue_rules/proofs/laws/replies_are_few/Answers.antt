use Rattle.venue_rules.proofs.FewReplies.{replies_few}
use Rattle.venue_rules.proofs.ShortSidesEach.{sides_short}
use Rattle.venue_rules.proofs.laws.replies_are_few.Goals as goal

pub returns-clause-orders : goal.returns-clause-orders
returns-clause-orders c = sides_short

pub returns-clause-replies : goal.returns-clause-replies
returns-clause-replies c = replies_few
