use Rattle.std.proofs.Common.{◌≡◌, ◌∙◌, refl, true, false, length, get_or, arith, rules}
use Rattle.std.proofs.lemmas.Grind.{get_or_default_zero}
use Rattle.client_ids.specs.Search.{IsPlace}
use Rattle.client_ids.specs.ClientIds.{answer_at}
use Rattle.client_ids.proofs.Ordered.{first-found, none-found}
use Rattle.client_ids.proofs.index.IdIndex.first.Goals as goal

pub overflow_cast-result-then-found : goal.overflow_cast-result-then-found
overflow_cast-result-then-found c = let few = c.place-place.ensures.few 64 (search rules) in omega (arith, few)

pub overflow_cast-result-else-found : goal.overflow_cast-result-else-found
overflow_cast-result-else-found c = let few = c.place-place.ensures.few 64 (search rules) in omega (arith, few)

pub returns-then-found-clause-first : goal.returns-then-found-clause-first
returns-then-found-clause-first c =
    let at = c.place-place.result.0 in
    let p : IsPlace (answer_at c.self.inside.names.items c.self.inside.index.items c.args.who c.args.id.now) (length c.self.inside.index.items) at true = rw (c.deref.ensures.value, c.deref-2.ensures.value, c.if-found.true) at c.place-place.ensures.place in
    let first = first-found c.self.inside.names.items c.self.inside.index.items c.args.who c.args.id.now at c.self.invariant p in
    let read : c.index.result.now ≡ get_or c.self.inside.index.items at 0 = c.index.ensures ∙ get_or_default_zero c.self.inside.index.items at c.index.result.now (p.here refl).0 in
    rw (← c.self.view_is, read) first

pub returns-else-found-clause-first : goal.returns-else-found-clause-first
returns-else-found-clause-first c =
    let at = c.place-place.result.0 in
    let p : IsPlace (answer_at c.self.inside.names.items c.self.inside.index.items c.args.who c.args.id.now) (length c.self.inside.index.items) at false = rw (c.deref.ensures.value, c.deref-2.ensures.value, c.if-found.false) at c.place-place.ensures.place in
    let none = none-found c.self.inside.names.items c.self.inside.index.items c.args.who c.args.id.now at c.self.invariant p in
    rw (← c.self.view_is) none
