use Rattle.std.proofs.Common.{ℕ, ◌≤◌, Option, sym, subst}
use Rattle.std.specs.Prelude.{IfSome, codes}
use Rattle.fix_pieces.specs.Pieces.{first_value}
use Rattle.desk_log.proofs.Integers.{number_bound}
use Rattle.desk_log.proofs.numbered.number_between.Goals as goal

pub returns-then-is_between-clause-bound : goal.returns-then-is_between-clause-bound
returns-then-is_between-clause-bound c =
    subst (λ (o : Option ℕ). IfSome o (λ n. n ≤ 999999999)) (sym c.number_in.ensures) (number_bound 1 999999999 (first_value (codes "34=") c.args.body.now))
