use Rattle.fix_decoder.proofs.BoundLemmas.{unless_none}
use Rattle.fix_decoder.proofs.field_values.moment_in.Goals as goal

pub unreachable-requires : goal.unreachable-requires
unreachable-requires c =
    let stated = unless_none _ _ c.requires in
    let unemitted = c.in-Err.ensures.test in
    cc
