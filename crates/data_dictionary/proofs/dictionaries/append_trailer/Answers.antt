use Rattle.std.proofs.Common.{◌++◌, ◌∙◌, [], ◌∷◌, ap}
use Rattle.data_dictionary.specs.declared.lines.Mention.{Mention}
use Rattle.data_dictionary.specs.Dictionaries.{fields_asked, trailer_text}
use Rattle.data_dictionary.specs.Layout.{frame_end}
use Rattle.data_dictionary.proofs.Chains.{so_ok, three}
use Rattle.data_dictionary.proofs.dictionaries.append_trailer.Goals as goal

pub returns : goal.returns
unfolding trailer_text frame_end
returns c =
    let frame = c.in_ok-append_fields_asked.ensures ∙ ap (λ (field : Mention). c.append.new.text.items ++ fields_asked (field ∷ [])) c.required.ensures in
    so_ok _ _ _ (three _ _ _ _ _ _ _ c.in_ok-append.ensures frame) c.append-2.ensures
