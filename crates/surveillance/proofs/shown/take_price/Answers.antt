use Rattle.surveillance.proofs.Showing.{row_begun}
use Rattle.surveillance.proofs.shown.take_price.Goals as goal

pub returns : goal.returns
returns c = λ row. row_begun c.args.bests.now.entries c.put_best.new.bests.entries c.args.last c.next_row.result c.args.price.now row c.in_ok-put_best.ensures c.next_row.ensures
