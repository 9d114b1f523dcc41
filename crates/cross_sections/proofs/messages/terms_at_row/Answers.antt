use Rattle.std.proofs.Common.{ap, sym, ◌∙◌}
use Rattle.cross_sections.specs.Crosses.{begins_otherwise, terms_of}
use Rattle.cross_sections.proofs.Readings.{one_taken}
use Rattle.cross_sections.proofs.Typing.{none_there}
use Rattle.cross_sections.proofs.messages.terms_at_row.Goals as goal

pub returns-then-begins_otherwise : goal.returns-then-begins_otherwise
returns-then-begins_otherwise c = λ i emits.
    let begins = sym (c.begins_otherwise.ensures ∙ ap begins_otherwise c.as_slice.ensures) ∙ c.if-begins_otherwise.true in
    none_there c.args.row.now i c.args.first.now begins emits

pub returns : goal.returns
returns c = λ i emits.
    c.terms_of.ensures ∙ ap (terms_of c.args.first.now) (one_taken c.one_list.ensures c.args.row.now i c.in_ok-taken.taken emits c.in_ok-taken.ensures)
