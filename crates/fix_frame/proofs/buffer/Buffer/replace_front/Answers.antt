use Rattle.std.proofs.Common.{rules, ◌≡◌, ◌≤◌, ◌+◌, ◌-◌, take, drop, vec_len, ◌++◌, sym, ◌∙◌, ap, arith}
use Rattle.std.proofs.lemmas.List.{drop-take, take-take}
use Rattle.fix_frame.proofs.buffer.Buffer.replace_front.Goals as goal

pub returns-clause-ok : goal.returns-clause-ok
returns-clause-ok c =
    let old = c.self.inside.memory.items in
    let long = c.lengthen.new.memory.items in
    let len = c.self.inside.len in
    let count = c.args.count in
    let is : take len old ≡ c.args.self.now.items = ap (λ b. b.items) c.self.view_is in
    let first : take len long ≡ c.args.self.now.items = sym (take-take len (vec_len c.self.inside.memory) long c.self.invariant) ∙ ap (take len) c.lengthen.ensures.first ∙ is in
    let fits : count ≤ len = search rules in
    let whole : count + (len - count) ≡ len = omega (arith, fits) in
    let moved : take (len - count) c.move_front.new.memory.items ≡ drop count c.args.self.now.items =
    c.move_front.ensures.front ∙ sym (drop-take count (len - count) long) ∙ ap (λ n. drop count (take n long)) whole ∙ ap (drop count) first in
    c.write_at.ensures.front ∙ ap (λ s. s ++ c.args.piece.now) moved
