use Rattle.std.proofs.Common.{◌≡◌, ℕ, ◌++◌, OnOk, subst}
use Rattle.frame_explanation.specs.Ignored.{counted_line}
use Rattle.frame_explanation.proofs.ignored.append_counted.Goals as goal

pub returns : goal.returns
returns c =
    subst (λ (t : ℕ). OnOk c.append_parts.result (c.append_parts.new.out.items ≡ c.args.out.now.items ++ counted_line t c.args.name.now c.args.count)) c.from.ensures c.append_parts.ensures
