use Rattle.std.proofs.Common.{◌≡◌, ◌++◌, ◌∙◌, List, ℕ, ap, codes}
use Rattle.data_dictionary.specs.MessageTypes.{Listed}
use Rattle.data_dictionary.specs.Dictionaries.{application_text, fields_text, messages_text}
use Rattle.data_dictionary.proofs.Chains.{so_ok, three}
use Rattle.data_dictionary.proofs.dictionaries.append_application.Goals as goal

pub returns : goal.returns
unfolding application_text
returns c =
    let messages = c.in_ok-append_messages.ensures ∙ ap (λ (kinds : List Listed). c.append.new.text.items ++ messages_text (codes "app") kinds) c.application_types.ensures in
    so_ok _ _ _ (λ (e : c.append_fields.new.text.items ≡ c.append_messages.new.text.items ++ fields_text c.application_tags.result.now). three _ _ _ _ _ _ _ c.in_ok-append.ensures messages
    (e ∙ ap (λ (tags : List ℕ). c.append_messages.new.text.items ++ fields_text tags) c.application_tags.ensures)) c.append_fields.ensures
