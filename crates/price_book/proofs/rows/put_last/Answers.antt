use Rattle.std.proofs.Common.{◌∙◌, ap, List, reverse}
use Rattle.price_book.specs.declared.row.Row.{Row}
use Rattle.price_book.specs.Rows.{behind}
use Rattle.price_book.proofs.Turned.{insert-turned}
use Rattle.price_book.proofs.rows.put_last.Goals as goal

pub returns-clause-rows : goal.returns-clause-rows
returns-clause-rows c =
    let rows : List Row = c.args.rows.now.items in
    ap reverse c.insert.ensures.items ∙ insert-turned rows c.worse-at.result (behind c.args.side c.args.row.price (reverse rows)) c.args.row c.worse-at.ensures
