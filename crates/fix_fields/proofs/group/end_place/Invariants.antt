use Rattle.std.proofs.Common.{◌≡◌, ◌+◌, drop}
use Rattle.std.specs.List.{position_or_len}
use Rattle.fix_fields.specs.declared.fields.Field.{Field}
use Rattle.fix_fields.specs.Groups.{is_end}
use Rattle.fix_fields.proofs.group.end_place.Given as goal

abbrev pub invariant-loop-place : goal.invariant-loop-place
invariant-loop-place l = position_or_len (λ (f : Field). is_end l.group f.tag) l.fields ≡ l.place + position_or_len (λ (f : Field). is_end l.group f.tag) (drop l.place l.fields)
