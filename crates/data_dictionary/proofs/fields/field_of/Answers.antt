use Rattle.std.proofs.Common.{◌∙◌, List, ap, nat_eq}
use Rattle.std.specs.List.{find}
use Rattle.std.specs.Option.{option_map}
use Rattle.data_dictionary.specs.Fields.{Field, seen}
use Rattle.data_dictionary.proofs.Finds.{find_seen}
use Rattle.data_dictionary.proofs.fields.field_of.Goals as goal

pub returns : goal.returns
returns c =
    ap (option_map seen) (c.copied.ensures ∙ c.first_of.ensures)
    ∙ find_seen c.args.tag c.fields.result.now
    ∙ ap (λ (fs : List Field). find (λ (f : Field). nat_eq f.tag c.args.tag) fs) c.fields.ensures
