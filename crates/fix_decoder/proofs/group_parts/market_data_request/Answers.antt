use Rattle.fix_validation.specs.Positions.{places}
use Rattle.fix_decoder.proofs.GroupRanges.{instrument_holds, request_holds, types_hold, types_number}
use Rattle.fix_decoder.proofs.group_parts.market_data_request.Goals as goal

pub entry_types-requires : goal.entry_types-requires
entry_types-requires c = types_hold (places c.args.located.now) c.requires

pub from_vec-list-requires : goal.from_vec-list-requires
from_vec-list-requires c = types_number (places c.args.located.now) c.requires _ (rw c.in_ok-entry_types.was at c.entry_types.ensures)

pub symbol-requires : goal.symbol-requires
symbol-requires c = instrument_holds (places c.args.located.now) c.requires

pub request_of-requires : goal.request_of-requires
request_of-requires c = rw (c.deref.ensures, rw c.in_ok-fields.was at c.part.ensures) (request_holds (places c.args.located.now) c.requires)
