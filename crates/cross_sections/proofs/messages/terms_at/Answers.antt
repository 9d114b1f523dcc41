use Rattle.std.proofs.Common.{ap, sym, ◌∙◌, ◌-◌, Option}
use Rattle.std.proofs.lemmas.Result.{IfOk-weaker}
use Rattle.venue_rules.specs.declared.trail.Taken.{Taken}
use Rattle.cross_sections.specs.Crosses.{taken_by, terms_of}
use Rattle.cross_sections.proofs.Readings.{none_is_read, row_is_read}
use Rattle.cross_sections.proofs.messages.terms_at.Goals as goal

pub returns-in-None : goal.returns-in-None
returns-in-None c = λ read emitted.
    sym (ap (λ i. terms_of c.args.first.now (taken_by i)) (none_is_read c.args.rows.now read (c.args.number - 1) emitted (sym c.in-None.ensures.row)))

pub returns-in-Some : goal.returns-in-Some
returns-in-Some c = λ read emitted.
    let found = row_is_read c.args.rows.now read (c.args.number - 1) c.in-Some.row.now emitted (sym c.in-Some.ensures.row) in
    IfOk-weaker c.terms_at_row.result _ _ (λ terms e. e ∙ ap (λ i. terms_of c.args.first.now (taken_by i)) (sym found.1)) (c.terms_at_row.ensures found.0 found.2)
