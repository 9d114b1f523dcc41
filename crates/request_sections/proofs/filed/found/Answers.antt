use Rattle.std.proofs.Common.{◌≡◌, ◌%◌, ◌∙◌, List, ℕ, filter, length, subst, sym, refl}
use Rattle.std.proofs.lemmas.Option.{slice_get_read}
use Rattle.std.proofs.lemmas.Nat.{mod_below}
use Rattle.request_sections.specs.Keys.{in_bucket, key_of}
use Rattle.request_sections.proofs.filed.found.Goals as goal

pub returns : goal.returns
returns c = λ by events filed.
    let buckets = c.args.buckets.now in
    let n = length buckets in
    let kept = c.index-buckets-key.result in
    let there = slice_get_read buckets n (c.args.key % n) kept refl (mod_below c.args.key n c.requires.some) c.index-buckets-key.is in
    c.events.ensures ∙ filed (c.args.key % n) kept there
