use Rattle.std.proofs.Common.{◌≡◌, [], map, take, drop}
use Rattle.toml.specs.View.{view}
use Rattle.file_diagnosis.specs.Causes.{first_from}
use Rattle.file_diagnosis.proofs.search.first_among.Given as goal

abbrev pub invariant-loop-place : goal.invariant-loop-place
invariant-loop-place l = first_from (view l.file) l.part l.look [] (map view l.list) ≡ first_from (view l.file) l.part l.look (map view (take l.place l.list)) (map view (drop l.place l.list))
