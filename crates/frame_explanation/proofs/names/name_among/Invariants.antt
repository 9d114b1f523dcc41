use Rattle.std.proofs.Common.{◌≡◌, drop, map}
use Rattle.data_dictionary.specs.MessageTypes.{seen}
use Rattle.frame_explanation.specs.Names.{name_among}
use Rattle.frame_explanation.proofs.names.name_among.Given as goal

abbrev pub invariant-loop-kind : goal.invariant-loop-kind
invariant-loop-kind l = name_among (map seen (drop l.kind-index l.kinds)) l.code ≡ name_among (map seen l.kinds) l.code
