use Rattle.std.proofs.Common.{drop}
use Rattle.std.specs.List.{AllByRecursion}
use Rattle.fix_dictionary.specs.Fits.{FitsParty}
use Rattle.fix_encoder.proofs.quote_print.parties_fit.Given as goal

abbrev pub invariant-loop-instance : goal.invariant-loop-instance
invariant-loop-instance l = AllByRecursion FitsParty (drop l.instance-index l.list) → AllByRecursion FitsParty l.list
