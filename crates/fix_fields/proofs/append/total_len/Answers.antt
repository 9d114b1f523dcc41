use Rattle.std.proofs.Common.{◌≡◌, List, ℕ, Bor, length, sum_by, rules, sym, ◌∙◌}
use Rattle.std.proofs.lemmas.List.Concat.{length-flat_map}
use Rattle.fix_fields.proofs.append.total_len.Goals as goal

pub returns : goal.returns
returns c =
    let total : c.sum.result ≡ sum_by (λ (part : Bor (List ℕ)). length part.now) c.args.parts.now = search rules in
    total ∙ sym (length-flat_map (λ (part : Bor (List ℕ)). part.now) c.args.parts.now)
