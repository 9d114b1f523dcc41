use Rattle.std.proofs.Common.{◌++◌, ◌∙◌, List, [], ◌∷◌, ap}
use Rattle.fix_validation.specs.declared.table.Row.{Row}
use Rattle.data_dictionary.specs.declared.lines.Mention.{Mention}
use Rattle.data_dictionary.specs.Dictionaries.{fields_asked, header_text, table_text}
use Rattle.data_dictionary.specs.Layout.{frame_begin, required}
use Rattle.data_dictionary.proofs.Chains.{so_ok, four}
use Rattle.data_dictionary.proofs.dictionaries.append_header.Goals as goal

pub returns : goal.returns
unfolding header_text frame_begin
returns c =
    let frame =
    c.in_ok-append_fields_asked.ensures
    ∙ ap (λ (field : Mention). c.append.new.text.items ++ fields_asked (field ∷ c.required-2.result ∷ [])) c.required.ensures
    ∙ ap (λ (field : Mention). c.append.new.text.items ++ fields_asked (required 8 ∷ field ∷ [])) c.required-2.ensures in
    let header = c.in_ok-append_table.ensures ∙ ap (λ (rows : List Row). c.append_fields_asked.new.text.items ++ table_text rows) c.header.ensures in
    so_ok _ _ _ (four _ _ _ _ _ _ _ _ _ c.in_ok-append.ensures frame header) c.append-2.ensures
