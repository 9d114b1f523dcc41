use Rattle.std.proofs.Common.{sym}
use Rattle.std.proofs.lemmas.List.{take_rest}
use Rattle.fix_fields.proofs.GroupPlaces.{no_parts, parts_are, headed, empty}
use Rattle.fix_fields.proofs.group.parts_of.Goals as goal

pub returns-in_default : goal.returns-in_default
returns-in_default c = no_parts c.args.group.now c.args.fields.now c.split_at.result.1.now c.own_place.result c.own_place.ensures.exact (sym c.split_at.ensures.back) (empty c.split_at.result.1.now c.in_default.len_below)

pub returns : goal.returns
returns c =
    parts_are c.args.group.now c.args.fields.now c.split_at.result.1.now _ c.split_at-2.result.0.now c.split_at-2.result.1.now _ c.own_place.result c.end_place.result
    c.own_place.ensures.exact (sym c.split_at.ensures.back) (headed c.split_at.result.1.now _ c.in-len1-up.len_at_least) (rw (take_rest c.split_at.result.1.now 1) at c.end_place.ensures.exact) (rw (take_rest c.split_at.result.1.now 1) at c.split_at-2.ensures.front) (rw (take_rest c.split_at.result.1.now 1) at c.split_at-2.ensures.back)
