use Rattle.std.proofs.Common.{sym}
use Rattle.std.proofs.lemmas.List.{take_rest}
use Rattle.fix_fields.proofs.GroupPlaces.{no_instance, instance_is, no_field, headed, empty}
use Rattle.fix_fields.proofs.group.first_instance.Goals as goal

pub returns-in-empty : goal.returns-in-empty
returns-in-empty c = no_instance c.args.tag c.args.fields.now c.split_at.result.1.now c.place_of.result c.place_of.ensures.exact (sym c.split_at.ensures.back) (empty c.split_at.result.1.now c.in-empty.len_below)

pub returns-in-len1-up : goal.returns-in-len1-up
returns-in-len1-up c =
    instance_is c.args.tag c.args.fields.now c.split_at.result.1.now _ c.split_at-in-len1-up.result.0.now c.split_at-in-len1-up.result.1.now _ c.place_of.result c.place_of-in-len1-up.result
    c.place_of.ensures.exact (sym c.split_at.ensures.back) (headed c.split_at.result.1.now no_field c.in-len1-up.len_at_least) (rw (take_rest c.split_at.result.1.now 1) at c.place_of-in-len1-up.ensures.exact) c.split_at-in-len1-up.ensures.front c.split_at-in-len1-up.ensures.back
