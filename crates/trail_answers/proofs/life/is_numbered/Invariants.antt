use Rattle.std.proofs.Common.{◌≡◌, ◌==◌, drop}
use Rattle.std.specs.List.{list_any}
use Rattle.trail_answers.proofs.life.is_numbered.Given as goal

abbrev pub invariant-loop-n : goal.invariant-loop-n
invariant-loop-n l = list_any (λ n. n == l.number) (drop l.n-index l.life.numbers.items) ≡ list_any (λ n. n == l.number) l.life.numbers.items
