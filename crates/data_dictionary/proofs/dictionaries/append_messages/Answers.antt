use Rattle.std.proofs.Common.{◌++◌, ◌∙◌, List, ℕ, ap, sym}
use Rattle.std.proofs.lemmas.List.Folds.{flat_map-map}
use Rattle.data_dictionary.specs.Dictionaries.{message_text, messages_text}
use Rattle.data_dictionary.specs.MessageTypes.{seen}
use Rattle.data_dictionary.proofs.Chains.{so_ok, three}
use Rattle.data_dictionary.proofs.dictionaries.append_messages.Goals as goal

pub returns : goal.returns
unfolding messages_text
returns c =
    let messages = c.in_ok-append_each_message.ensures ∙ ap (λ (l : List ℕ). c.append.new.text.items ++ l) (sym (flat_map-map (message_text c.args.category.now) seen c.args.kinds.now)) in
    so_ok _ _ _ (three _ _ _ _ _ _ _ c.in_ok-append.ensures messages) c.append-2.ensures
