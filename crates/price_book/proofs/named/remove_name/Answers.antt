use Rattle.std.proofs.Common.{◌≡◌, ◌∙◌, ℕ, ◌<◌, List, length, get_or}
use Rattle.price_book.specs.declared.id_key.IdKey.{IdKey}
use Rattle.price_book.specs.Numbered.{no_key}
use Rattle.price_book.proofs.Names.{named-removed, hash_keys-rise, key-there-from, key-numbered}
use Rattle.price_book.proofs.named.remove_name.Goals as goal

pub lesser-from-requires : goal.lesser-from-requires
lesser-from-requires c = rw c.deref.ensures.value (hash_keys-rise c.requires.0 c.args.keys.now.items c.requires.2)

pub spot-at-requires : goal.spot-at-requires
spot-at-requires c =
    let ks : List IdKey = c.args.keys.now.items in
    let lesser : (k : ℕ) → k < c.lesser-from.result → (get_or ks k no_key).hash_key < c.args.hash_key = rw c.deref.ensures.value at c.lesser-from.ensures.lesser in
    rw c.deref-2.ensures.value (key-there-from c.requires.0 ks c.args.hash_key c.args.number c.lesser-from.result c.requires.3 c.requires.2 c.requires.4 lesser)

pub returns-clause-named : goal.returns-clause-named
returns-clause-named c = λ rs k ledger is named.
    let ks : List IdKey = c.args.keys.now.items in
    let within : c.spot-at.result < length ks = rw c.deref-2.ensures.value at c.spot-at.ensures.within in
    let here : (get_or ks c.spot-at.result no_key).number ≡ c.args.number = rw c.deref-2.ensures.value at c.spot-at.ensures.here in
    rw c.remove-key.ensures.items (named-removed rs ks k c.spot-at.result ledger named is.0 within (here ∙ key-numbered rs c.args.hash_key c.args.number k is))
