use Rattle.std.proofs.Common.{◌≡◌, [], drop, take, length}
use Rattle.fix_fields.specs.Views.{entries}
use Rattle.fix_validation.specs.ByTag.{any_twice, AreNoted}
use Rattle.fix_validation.proofs.by_tag.noted.Given as goal

abbrev pub invariant-loop-place : goal.invariant-loop-place
invariant-loop-place l = (any_twice [] (entries l.fields) ≡ any_twice (entries (take l.place l.fields)) (entries (drop l.place l.fields)))
    × AreNoted l.places (entries (take l.place l.fields))
    × (length l.places ≡ 128)
