use Rattle.std.proofs.Common.{◌≡◌, ◌+◌, drop}
use Rattle.std.specs.List.{position_or_len}
use Rattle.fix_fields.specs.declared.fields.Field.{Field}
use Rattle.fix_fields.specs.Groups.{is_own}
use Rattle.fix_fields.proofs.group.own_place.Given as goal

abbrev pub invariant-loop-place : goal.invariant-loop-place
invariant-loop-place l = position_or_len (λ (f : Field). is_own l.group f.tag) l.fields ≡ l.place + position_or_len (λ (f : Field). is_own l.group f.tag) (drop l.place l.fields)
