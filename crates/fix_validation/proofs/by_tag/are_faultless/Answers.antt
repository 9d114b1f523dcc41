use Rattle.std.proofs.Common.{sym, ◌∙◌}
use Rattle.fix_fields.specs.Views.{entries}
use Rattle.fix_validation.proofs.ByTagLemmas.{faultless}
use Rattle.fix_validation.proofs.by_tag.are_faultless.Goals as goal

pub returns-then-rows_hold : goal.returns-then-rows_hold
returns-then-rows_hold c second =
    faultless c.args.header.now c.args.rows.now (entries c.args.fields.now) c.in-Some.ensures.0
    (sym c.rows_hold.ensures ∙ c.if-rows_hold.true) (sym c.rows_hold-then-rows_hold.ensures ∙ second)
