use Rattle.fix_validation.specs.Positions.{places}
use Rattle.fix_decoder.proofs.CrossLaws.{cross_holds, first_holds, second_holds}
use Rattle.fix_decoder.proofs.cross_parts.new_order_cross.Goals as goal

pub first_side-requires : goal.first_side-requires
first_side-requires c = first_holds (places c.args.located.now) c.requires

pub second_side-requires : goal.second_side-requires
second_side-requires c = second_holds (places c.args.located.now) c.requires

pub cross_of-requires : goal.cross_of-requires
cross_of-requires c = rw (c.deref.ensures, rw c.in_ok-fields.was at c.part.ensures) (cross_holds (places c.args.located.now) c.requires)
