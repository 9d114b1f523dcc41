use Rattle.participant_activity.proofs.page.append_quotes.Goals as goal

pub returns : goal.returns
returns c = rw c.plus-lapsed.ensures at c.append_figures.ensures
