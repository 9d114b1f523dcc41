use Rattle.fix_validation.specs.Positions.{places}
use Rattle.fix_decoder.proofs.QuoteRanges.{request_holds, asked_parties, asked_number, asked_holds}
use Rattle.fix_decoder.proofs.quote_parts.quote_request.Goals as goal

pub request_id-requires : goal.request_id-requires
request_id-requires c = request_holds (places c.args.located.now) c.requires

pub parties_of-requires-clause-each : goal.parties_of-requires-clause-each
parties_of-requires-clause-each c = asked_parties (places c.args.located.now) c.requires _

pub from_vec-list-requires : goal.from_vec-list-requires
from_vec-list-requires c = asked_number (places c.args.located.now) c.requires _ (rw c.first_begin-place.ensures at (rw c.in_ok-parties_of.was at c.parties_of.ensures))

pub asked-requires : goal.asked-requires
asked-requires c = rw (c.deref-2.ensures, rw c.in_ok-fields.was at c.part.ensures, c.first_begin-place.ensures) (asked_holds (places c.args.located.now) c.requires)
