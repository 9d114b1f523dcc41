use Rattle.venue_main.proofs.recording.serve_journal.Goals as goal

-- a venue where its rows lead may run from them
pub serve_over-requires-clause-history : goal.serve_over-requires-clause-history
serve_over-requires-clause-history g c κs within = let at = c.requires.leads in (at.before, at.rows_are, at.few, at.stands, (at.last, at.rising))
