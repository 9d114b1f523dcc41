use Rattle.std.proofs.Common.{drop}
use Rattle.std.specs.List.{AllByRecursion}
use Rattle.fix_dictionary.specs.Fits.{FitsMarketDataEntry}
use Rattle.fix_encoder.proofs.group_print.entries_fit.Given as goal

abbrev pub invariant-loop-instance : goal.invariant-loop-instance
invariant-loop-instance l = AllByRecursion FitsMarketDataEntry (drop l.instance-index l.list) → AllByRecursion FitsMarketDataEntry l.list
