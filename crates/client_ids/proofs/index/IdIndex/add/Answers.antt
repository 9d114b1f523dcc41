use Rattle.std.proofs.Common.{◌≡◌, ◌∙◌, sym, ap, ◌<◌, ◌≤◌, ◌^◌, if◌then◌else◌, true, length, arith}
use Rattle.std.specs.List.{insert}
use Rattle.std.specs.Result.{is_ok}
use Rattle.client_ids.specs.Held.{held}
use Rattle.client_ids.specs.Search.{IsPlace}
use Rattle.client_ids.specs.ClientIds.{answer_behind}
use Rattle.client_ids.proofs.Inserted.{added}
use Rattle.client_ids.proofs.index.IdIndex.add.Goals as goal

pub invariant_of-self : goal.invariant_of-self
invariant_of-self c =
    let found = c.behind-at.ensures.0 in
    let p : IsPlace (answer_behind c.self.inside.names.items c.self.inside.index.items c.args.name.who c.args.name.id) (length c.self.inside.index.items) c.behind-at.result found = rw (c.deref.ensures.value, c.deref-2.ensures.value) at c.behind-at.ensures.1 in
    let headroom : 1 ≤ (held c.self.inside).headroom = rw (← c.self.view_is) at c.requires in
    let ok : is_ok c.insert-inserted.result ≡ true = c.insert-inserted.ensures.succeeds (omega (arith, headroom)) in
    let len : c.len-place.result ≡ length c.self.inside.names.items = c.len-place.ensures ∙ sym c.deref.ensures.len ∙ ap length c.deref.ensures.value in
    let below : length c.self.inside.names.items < 2 ^ 32 = omega (arith, headroom, ap length c.deref.ensures.value, c.deref.ensures.len) in
    let is = added c.self.inside.names.items c.self.inside.index.items c.args.name c.behind-at.result found c.self.invariant p below in
    let inserted : c.insert-inserted.new.self.items ≡ insert c.self.inside.index.items c.behind-at.result (length c.self.inside.names.items) = c.insert-inserted.ensures.items ∙ ap (λ b. if b then insert c.self.inside.index.items c.behind-at.result c.len-place.result else c.self.inside.index.items) ok ∙ ap (insert c.self.inside.index.items c.behind-at.result) len in
    rw (inserted, c.push_reserved.ensures.items) is
