use Rattle.std.proofs.Common.{◌∙◌}
use Rattle.std.proofs.lemmas.Result.{IfErr-weaker, IfOk-weaker}
use Rattle.trail_comparison.specs.Under.{market_of_rules}
use Rattle.sef_replay.specs.Compared.{read_side}
use Rattle.sef_replay.proofs.WithoutRows.{side_begun, side_emitted}
use Rattle.sef_replay.proofs.without.print_both.Goals as goal

pub returns-clause-emitted : goal.returns-clause-emitted
returns-clause-emitted g c name found =
    let all = c.as_slice.ensures.value ∙ c.rules_and_rows-own.ensures.rows in
    IfOk-weaker c.print_without-printed.result _ _
    (λ same emits. side_emitted same (read_side c.args.day) _ (market_of_rules c.args.again) _ name c.args.who _ _ _ c.rules_and_rows-own.ensures.rules c.requires.same all found c.in_ok-write_head.ensures.headed emits) c.print_without-printed.ensures.emitted

pub returns-clause-begun : goal.returns-clause-begun
returns-clause-begun g c name found =
    let all = c.as_slice.ensures.value ∙ c.rules_and_rows-own.ensures.rows in
    IfErr-weaker c.print_without-printed.result _ _
    (λ fault begun is. side_begun (read_side c.args.day) _ (market_of_rules c.args.again) _ name c.args.who _ _ _ c.rules_and_rows-own.ensures.rules c.requires.same all found c.in_ok-write_head.ensures.headed (begun is)) c.print_without-printed.ensures.begun
