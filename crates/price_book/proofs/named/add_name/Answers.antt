use Rattle.std.proofs.Common.{◌≡◌, refl, ◌∙◌, sym, ap, subst, ◌<◌, ◌^◌, List, length, arith}
use Rattle.std.specs.List.{insert}
use Rattle.client_ids.specs.ClientIds.{hash_key_of}
use Rattle.client_ids.specs.Search.{IsPlace}
use Rattle.venue_rules.specs.declared.facts.Entry.{Entry}
use Rattle.price_book.specs.declared.id_key.IdKey.{IdKey}
use Rattle.price_book.specs.Numbered.{key_of, answer_behind}
use Rattle.price_book.proofs.Names.{named-pushed}
use Rattle.price_book.proofs.named.add_name.Goals as goal

pub behind-at-requires-clause-listed : goal.behind-at-requires-clause-listed
behind-at-requires-clause-listed c = rw c.deref.ensures.value c.requires.listed

pub insert_at-requires-clause-within : goal.insert_at-requires-clause-within
insert_at-requires-clause-within c = omega (arith, c.behind-at.ensures.1.within, ap length c.deref.ensures.value, c.args.keys.now.ok)

pub returns-clause-named : goal.returns-clause-named
returns-clause-named c = λ rs r is listed.
    let es = c.args.stored_orders.now.entries in
    let ks : List IdKey = c.args.keys.now.items in
    let e : Entry = c.args.entry.now in
    let at = c.behind-at.result in
    let found = c.behind-at.ensures.0 in
    let p : IsPlace (answer_behind es ks (hash_key_of e.order.who e.order.id) e.order.who e.order.id) (length ks) at found = rw (c.deref.ensures.value, c.requires.hash_key) at c.behind-at.ensures.1 in
    let q : IsPlace (answer_behind es ks (hash_key_of r.entry.order.who r.entry.order.id) r.entry.order.who r.entry.order.id) (length ks) at found = subst (λ (x : Entry). IsPlace (answer_behind es ks (hash_key_of x.order.who x.order.id) x.order.who x.order.id) (length ks) at found) (sym is) p in
    let few : length ks < 2 ^ 32 = omega (arith, c.requires.few, ap length c.deref.ensures.value, c.deref.ensures.len) in
    let key : record { hash_key = c.args.hash_key; number = e.number } ≡ key_of r.entry = rw (is, c.requires.hash_key) refl in
    let inserted : c.insert_at.new.items.items ≡ insert ks at (key_of r.entry) = c.insert_at.ensures.items ∙ ap (λ k. insert ks at k) key in
    rw inserted (named-pushed rs es ks r at found listed few q)
