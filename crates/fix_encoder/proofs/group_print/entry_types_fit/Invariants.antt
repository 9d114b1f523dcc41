use Rattle.std.proofs.Common.{drop}
use Rattle.std.specs.List.{AllByRecursion}
use Rattle.fix_dictionary.specs.Fits.{IsGraphic}
use Rattle.fix_encoder.proofs.group_print.entry_types_fit.Given as goal

abbrev pub invariant-loop-instance : goal.invariant-loop-instance
invariant-loop-instance l = AllByRecursion IsGraphic (drop l.instance-index l.list) → AllByRecursion IsGraphic l.list
