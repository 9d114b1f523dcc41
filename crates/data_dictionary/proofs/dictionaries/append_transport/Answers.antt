use Rattle.std.proofs.Common.{◌≡◌, ◌++◌, ◌∙◌, List, ℕ, ap, codes}
use Rattle.data_dictionary.specs.MessageTypes.{Listed}
use Rattle.data_dictionary.specs.Dictionaries.{fields_text, messages_text, transport_text}
use Rattle.data_dictionary.proofs.Chains.{so_ok, four}
use Rattle.data_dictionary.proofs.dictionaries.append_transport.Goals as goal

pub returns : goal.returns
unfolding transport_text
returns c =
    let messages = c.in_ok-append_messages.ensures ∙ ap (λ (kinds : List Listed). c.append_header.new.text.items ++ messages_text (codes "admin") kinds) c.session_types.ensures in
    so_ok _ _ _ (λ (e : c.append_fields.new.text.items ≡ c.append_trailer.new.text.items ++ fields_text c.transport_tags.result.now). four _ _ _ _ _ _ _ _ _ c.in_ok-append_header.ensures messages c.in_ok-append_trailer.ensures
    (e ∙ ap (λ (tags : List ℕ). c.append_trailer.new.text.items ++ fields_text tags) c.transport_tags.ensures)) c.append_fields.ensures
