use Rattle.std.proofs.Common.{◌≡◌, ◌++◌, ◌∙◌, List, ℕ, ap, sym, append-nil, codes}
use Rattle.data_dictionary.specs.Dictionaries.{value_text, values_text}
use Rattle.data_dictionary.specs.Values.{named, values_of}
use Rattle.data_dictionary.proofs.Chains.{so_ok}
use Rattle.data_dictionary.proofs.dictionaries.append_values.Goals as goal

pub returns-in-One : goal.returns-in-One
unfolding values_text values_of
returns-in-One c =
    rw c.in-One.is (so_ok _ _ _ (λ (e : c.append_value-in-One.new.text.items ≡ c.args.text.now.items ++ value_text (named (codes "1") (codes "ONE_INSTRUMENT"))). e ∙ ap (λ (l : List ℕ). c.args.text.now.items ++ l) (sym (append-nil (value_text (named (codes "1") (codes "ONE_INSTRUMENT")))))) c.append_value-in-One.ensures)

pub returns-in-Two : goal.returns-in-Two
unfolding values_text values_of
returns-in-Two c =
    rw c.in-Two.is (so_ok _ _ _ (λ (e : c.append_value-in-Two.new.text.items ≡ c.args.text.now.items ++ value_text (named (codes "2") (codes "BOTH_SIDES"))). e ∙ ap (λ (l : List ℕ). c.args.text.now.items ++ l) (sym (append-nil (value_text (named (codes "2") (codes "BOTH_SIDES")))))) c.append_value-in-Two.ensures)
