use Rattle.std.proofs.Common.{◌≡◌, ◌==◌, ◌&&◌, drop, bytes_eq}
use Rattle.std.specs.List.{list_any}
use Rattle.trail_answers.proofs.life.is_named.Given as goal

abbrev pub invariant-loop-name : goal.invariant-loop-name
invariant-loop-name l = list_any (λ n. (n.who == l.who) && bytes_eq n.id l.id) (drop l.name-index l.life.names.items) ≡ list_any (λ n. (n.who == l.who) && bytes_eq n.id l.id) l.life.names.items
