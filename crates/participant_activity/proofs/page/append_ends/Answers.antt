use Rattle.participant_activity.proofs.page.append_ends.Goals as goal

pub returns : goal.returns
returns c = rw c.resting-resting.ensures at c.append_figures.ensures
