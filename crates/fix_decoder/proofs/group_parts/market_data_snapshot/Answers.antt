use Rattle.fix_validation.specs.Positions.{places}
use Rattle.fix_decoder.proofs.GroupRanges.{entries_hold, entries_number, snapshot_holds}
use Rattle.fix_decoder.proofs.group_parts.market_data_snapshot.Goals as goal

pub market_data_entries-requires : goal.market_data_entries-requires
market_data_entries-requires c = entries_hold (places c.args.located.now) c.requires

pub from_vec-list-requires : goal.from_vec-list-requires
from_vec-list-requires c = entries_number (places c.args.located.now) c.requires _ (rw c.in_ok-market_data_entries.was at c.market_data_entries.ensures)

pub snapshot_of-requires : goal.snapshot_of-requires
snapshot_of-requires c = rw (c.deref.ensures, rw c.in_ok-fields.was at c.part.ensures) (snapshot_holds (places c.args.located.now) c.requires)
