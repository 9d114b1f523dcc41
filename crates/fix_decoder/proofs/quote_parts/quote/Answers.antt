use Rattle.fix_validation.specs.Positions.{places}
use Rattle.fix_decoder.proofs.QuoteRanges.{quote_parties, quote_number, quote_holds}
use Rattle.fix_decoder.proofs.quote_parts.quote.Goals as goal

pub parties_of-requires-clause-each : goal.parties_of-requires-clause-each
parties_of-requires-clause-each c = quote_parties (places c.args.located.now) c.requires

pub from_vec-list-requires : goal.from_vec-list-requires
from_vec-list-requires c = quote_number (places c.args.located.now) c.requires _ (rw c.in_ok-parties_of.was at c.parties_of.ensures)

pub quote_of-requires : goal.quote_of-requires
quote_of-requires c = rw (c.deref-2.ensures, rw c.in_ok-fields.was at c.part.ensures) (quote_holds (places c.args.located.now) c.requires)
