use Rattle.data_dictionary.specs.Dictionaries.{line_text}
use Rattle.data_dictionary.proofs.Chains.{so_ok, three}
use Rattle.data_dictionary.proofs.lines.append_line.Goals as goal

pub returns-in_ok-append_attributes-in-Field : goal.returns-in_ok-append_attributes-in-Field
unfolding line_text
returns-in_ok-append_attributes-in-Field c =
    rw c.in-Field.is (so_ok _ _ _ (three _ _ _ _ _ _ _ c.in_ok-append-in-Field.ensures c.in_ok-append_attributes-in-Field.ensures) c.append-in-Field.ensures)

pub returns-in_ok-append_attributes-in-GroupBegin : goal.returns-in_ok-append_attributes-in-GroupBegin
unfolding line_text
returns-in_ok-append_attributes-in-GroupBegin c =
    rw c.in-GroupBegin.is (so_ok _ _ _ (three _ _ _ _ _ _ _ c.in_ok-append-in-GroupBegin.ensures c.in_ok-append_attributes-in-GroupBegin.ensures) c.append-in-GroupBegin-2.ensures)
