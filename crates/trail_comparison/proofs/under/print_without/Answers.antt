use Rattle.std.proofs.Common.{◌≡◌, ◌-◌, ℕ, List, Some, IfErr, IfOk, length, subst, ap, ◌∙◌}
use Rattle.participants.specs.Relations.{name_of}
use Rattle.trail_comparison.specs.Under.{EmitsBehind, IsBegunBehind, head_without, left_out, market_of_rules}
use Rattle.trail_comparison.specs.declared.fault.ComparisonFault.TheVariants.{Memory}
use Rattle.trail_comparison.proofs.under.print_without.Goals as goal

pub returns-clause-emitted : goal.returns-clause-emitted
returns-clause-emitted g c =
    let a = c.args.rules.a in
    let first : c.deref.result.now ≡ head_without (name_of a.participants c.args.who) (left_out c.args.who c.args.rows.now) =
    c.deref.ensures.value ∙ c.in_ok-first.ensures ∙ ap (λ (k : ℕ). head_without (name_of a.participants c.args.who) (length c.args.rows.now - k)) c.count_shared.ensures.count in
    subst (λ (f : List ℕ). IfOk c.print_both.result (λ same. EmitsBehind f (Some c.args.who) same (market_of_rules a) (market_of_rules c.args.rules.b) c.args.rows.now (g.W.Write.contents c.args.writer.now) (g.W.Write.contents c.print_both.new.writer)))
    first c.print_both.ensures.emitted

pub returns-clause-begun : goal.returns-clause-begun
returns-clause-begun g c =
    let a = c.args.rules.a in
    let first : c.deref.result.now ≡ head_without (name_of a.participants c.args.who) (left_out c.args.who c.args.rows.now) =
    c.deref.ensures.value ∙ c.in_ok-first.ensures ∙ ap (λ (k : ℕ). head_without (name_of a.participants c.args.who) (length c.args.rows.now - k)) c.count_shared.ensures.count in
    subst (λ (f : List ℕ). IfErr c.print_both.result (λ fault. fault ≡ Memory → IsBegunBehind f (Some c.args.who) (market_of_rules a) (market_of_rules c.args.rules.b) c.args.rows.now (g.W.Write.contents c.args.writer.now) (g.W.Write.contents c.print_both.new.writer)))
    first c.print_both.ensures.begun
