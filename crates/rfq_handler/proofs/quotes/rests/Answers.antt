use Rattle.rfq_handler.proofs.Showing.{rests-is}
use Rattle.rfq_handler.proofs.quotes.rests.Goals as goal

pub returns : goal.returns
returns c = rests-is c.args.book.now.facts c.args.instrument c.from_vec.result c.in_ok-picture.field-0.items c.in_ok-picture.ensures.shown c.from_vec.ensures
