use Rattle.std.proofs.Common.{◌≡◌, Bool, false, nat_le, length, if◌then◌else◌, ◌∙◌, ap, sym, arith}
use Rattle.std.proofs.lemmas.Bool.{lt-leb}
use Rattle.std.proofs.lemmas.Result.{on_ok_weaker}
use Rattle.page_text.specs.Parts.{with_part}
use Rattle.day_tables.specs.Parts.{plain_part}
use Rattle.day_page.specs.declared.template.TheConstants.{FOLD, ROWS_OPEN}
use Rattle.day_page.specs.Folds.{fold_part}
use Rattle.day_page.proofs.folds.add_first.Goals as goal

pub returns-else-rows-le120 : goal.returns-else-rows-le120
returns-else-rows-le120 c =
    let rows = c.args.rows.now in
    let long : nat_le (length rows) 120 ≡ false = lt-leb (length rows) 120 (omega (arith, c.if-rows-le120.false)) in
    on_ok_weaker c.add_fold.result
    (λ e. e ∙ sym (ap (λ (b : Bool). with_part c.args.page.now (if b then plain_part ROWS_OPEN.now else fold_part FOLD.now rows 0 c.args.row.now)) long))
    c.add_fold.ensures
