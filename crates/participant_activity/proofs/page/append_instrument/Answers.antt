use Rattle.participant_activity.proofs.page.append_instrument.Goals as goal

pub returns : goal.returns
returns c = rw c.as_slice-symbol.ensures.value at c.append_figures.ensures
