use Rattle.std.proofs.Common.{sym}
use Rattle.std.specs.BTreeMap as tree
use Rattle.desk_log.specs.Once.{place_cmp}
use Rattle.desk_log.proofs.Firsts.{inserted, unchanged}
use Rattle.desk_log.proofs.once.keep.Goals as goal

pub returns-in-Some : goal.returns-in-Some
returns-in-Some c = unchanged (tree.get place_cmp c.args.kept.now) c.args.place c.args.span c.in-Some._had.now (sym c.in-Some.ensures.value)

pub returns-in_ok-insert-in-None : goal.returns-in_ok-insert-in-None
returns-in_ok-insert-in-None c = inserted (tree.get place_cmp c.args.kept.now) (tree.get place_cmp c.insert.new.self) c.args.place c.args.span (sym c.in-None.ensures.value) c.in_ok-insert-in-None.ensures.updates.0
