use Rattle.std.proofs.lemmas.Result.{on_ok_weaker}
use Rattle.day_tables.specs.Parts.{each_from}
use Rattle.std.proofs.Common.{length}
use Rattle.day_tables.proofs.Walks.{in_frame}
use Rattle.rule_counts.specs.Rules.{adjusted_parts, book_part, rules_part, ruled_day}
use Rattle.rule_counts.proofs.rules.add_rules.Goals as goal

pub returns : goal.returns
returns c =
    let xs = c.args.instruments.now in
    let d = ruled_day c.args.day.now in
    on_ok_weaker c.add_book.result
    (in_frame c.args.page.now c.add_counts.new.page c.add_each.new.page c.add_book.new.page (rules_part xs d) (each_from (adjusted_parts xs) 0 (length xs)) (book_part d) c.in_ok-add_counts.ensures c.in_ok-add_each.ensures)
    c.add_book.ensures
