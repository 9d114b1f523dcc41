use Rattle.std.proofs.Common.{length}
use Rattle.std.proofs.lemmas.Result.{on_ok_weaker}
use Rattle.day_tables.specs.declared.template.TheConstants.{BULLETIN, BULLETIN_END}
use Rattle.day_tables.specs.Bulletin.{traded_parts}
use Rattle.day_tables.specs.Parts.{each_from, plain_part}
use Rattle.day_tables.proofs.Walks.{in_frame}
use Rattle.day_tables.proofs.bulletin.add_some.Goals as goal

pub returns : goal.returns
returns c =
    on_ok_weaker c.add-2.result
    (in_frame c.args.page.now c.add.new.self c.add_each.new.page c.add-2.new.self (plain_part BULLETIN.now) (each_from (traded_parts c.args.instruments.now c.args.trades.now) 0 (length c.args.instruments.now)) (plain_part BULLETIN_END.now)
    c.in_ok-add.ensures.added c.in_ok-add_each.ensures)
    c.add-2.ensures.added
