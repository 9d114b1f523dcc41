use Rattle.fix_group_laws.proofs.Tables.{outside, inside, listed_group, outside_of_groups, sole}
use Rattle.fix_group_laws.proofs.Converse.{refused, present}
use Rattle.fix_group_laws.proofs.Sheltered.{refused_inside}
use Rattle.fix_group_laws.proofs.Named.{named}
use Rattle.fix_group_laws.proofs.Doubled.{doubled}
use Rattle.fix_group_laws.proofs.laws.places_are_groups.Goals as goal

pub returns : goal.returns
returns c = record {
  outside = outside;
  inside = inside;
  sole = sole;
  alone = outside_of_groups;
  listed = listed_group;
  refused = refused;
  refused_inside = refused_inside;
  named = named;
  present = present;
  doubled = doubled;
}
