use Rattle.test_trail.proofs.day.answer_over.Goals as goal

-- a venue that stands where its rows lead may go on from them
pub new-requires-clause-history : goal.new-requires-clause-history
new-requires-clause-history g c = let at = c.requires.leads in (at.before, at.rows_are, at.few, at.stands, (at.last, at.rising))
