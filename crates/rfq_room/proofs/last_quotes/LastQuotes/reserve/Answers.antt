use Rattle.rfq_room.proofs.last_quotes.LastQuotes.reserve.Goals as goal

pub returns-clause-entries : goal.returns-clause-entries
returns-clause-entries c = λ room maker. rw (← c.self.view_is) (c.reserve.ensures.entries.2 (room, maker))
