use Rattle.std.proofs.Common.{◌≡◌, ◌++◌, Some, ap, sym, ◌∙◌, rules}
use Rattle.fix_fields.specs.Views.{entries}
use Rattle.fix_validation.specs.Tables.{header_rows, rows_of}
use Rattle.fix_decoder.specs.Messages.{begin_in}
use Rattle.fix_validation.specs.declared.faults.DictFault.TheVariants.{NoMemory}
use Rattle.fix_decoder.proofs.HoldLemmas.{holds, no_want}
use Rattle.fix_decoder.proofs.TableLemmas.{own_forms}
use Rattle.fix_decoder.proofs.reading.read_fields.Goals as goal

pub message_in-requires-clause-holds : goal.message_in-requires-clause-holds
message_in-requires-clause-holds c =
    let kind = c.type_of-kind.result in
    let begin = begin_in (entries c.args.fields.now) in
    holds (header_rows ++ rows_of kind begin) (entries c.args.fields.now) (own_forms kind begin) (sym c.fault_in.ensures ∙ c.in-None.is)

pub returns-in-Some-clause-flat : goal.returns-in-Some-clause-flat
returns-in-Some-clause-flat c want flat =
    let is : c.in-Some.fault ≡ NoMemory = search (want, rules) in
    absurd (no_want _ _ (sym c.fault_in.ensures ∙ c.in-Some.is ∙ ap Some is))
