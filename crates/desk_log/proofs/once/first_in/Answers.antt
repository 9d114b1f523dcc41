use Rattle.std.proofs.Common.{arith}
use Rattle.std.specs.BTreeMap as tree
use Rattle.desk_log.specs.Once.{place_cmp}
use Rattle.desk_log.proofs.Firsts.{first_more_at}
use Rattle.desk_log.proofs.once.first_in.Goals as goal

pub loop-message-preserved : goal.loop-message-preserved
loop-message-preserved c =
    first_more_at c.args.logged.now c.loop-message.message-index _ (tree.get place_cmp c.loop-message.kept) (tree.get place_cmp c.keep.new.kept) (omega arith) c.loop-message.invariant c.in_ok-keep.ensures
