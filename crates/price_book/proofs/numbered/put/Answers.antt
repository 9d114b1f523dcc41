use Rattle.std.proofs.Common.{◌≡◌, true, arith}
use Rattle.std.specs.Result.{is_ok}
use Rattle.price_book.specs.Views.{seen}
use Rattle.price_book.proofs.Numbers.{given-ok, put-numbered}
use Rattle.price_book.proofs.numbered.put.Goals as goal

pub returns : goal.returns
returns c = λ rs live ledger kept.
    let ok : is_ok c.insert-before.result ≡ true = c.insert-before.ensures.succeeds (omega (arith, c.requires.headroom)) in
    let updates = given-ok _ c.insert-before.result ok c.insert-before.ensures.updates in
    put-numbered (seen c.args.order) c.stored_order_of.result rs c.args.stored_orders.now.entries c.insert-before.new.self.entries live ledger c.stored_order_of.ensures updates.0 kept
