use Rattle.std.proofs.Common.{◌≡◌, ◌≤◌, true, take, length, ◌-◌}
use Rattle.std.specs.Char.{is_ascii_digit}
use Rattle.std.specs.List.{list_all}
use Rattle.std.specs.Str.Parse.{digits_value}
use Rattle.fix_fields.proofs.fields.front_tag.Given as goal

abbrev pub invariant-loop-place : goal.invariant-loop-place
invariant-loop-place l = record {
  within : l.place ≤ length l.text;
  short : l.place ≤ 9;
  digits : list_all is_ascii_digit (take l.place l.text) ≡ true;
  value : l.tag ≡ digits_value 10 (take l.place l.text);
}

abbrev pub decreases-loop-place : goal.decreases-loop-place
decreases-loop-place l = length l.text - l.place
