use Rattle.std.proofs.Common.{◌≡◌, ◌%◌, List, ℕ, filter, length, subst, sym, refl}
use Rattle.std.specs.List.{flat_map}
use Rattle.std.proofs.lemmas.Option.{slice_get_read}
use Rattle.std.proofs.lemmas.Nat.{mod_below}
use Rattle.trade_reconstruction.specs.Indexed.{at, is_keyed}
use Rattle.trade_reconstruction.proofs.Index.{bucket_has}
use Rattle.trade_reconstruction.proofs.events.places_of.Goals as goal

pub returns : goal.returns
returns c = λ f words placed.
    let buckets = c.args.buckets.now in
    let n = length buckets in
    let p = c.index-buckets-key.result in
    let there = slice_get_read buckets n (c.args.key % n) p refl (mod_below c.args.key n c.requires.some) c.index-buckets-key.is in
    subst (λ (ps : List ℕ). filter (λ w. is_keyed c.args.key (f w)) (flat_map (at words) ps) ≡ filter (λ w. is_keyed c.args.key (f w)) words) (sym c.places.ensures) (bucket_has f words n c.args.key p (placed (c.args.key % n) p there))
