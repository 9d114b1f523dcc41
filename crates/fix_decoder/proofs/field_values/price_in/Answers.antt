use Rattle.std.proofs.Common.{◌≡◌, ◌≤◌, arith, to_z, of_z, w64, unsigned_abs}
use Rattle.std.proofs.lemmas.Int.{ints}
use Rattle.fix_decoder.proofs.BoundLemmas.{price_bound}
use Rattle.fix_decoder.proofs.field_values.price_in.Goals as goal

pub new-requires : goal.new-requires
new-requires c =
    let bound : unsigned_abs c.in-Ok.price ≤ 1_000_000_000_000_000_000 = price_bound c.args.bytes.now c.read_price.result c.in-Ok.price c.in-Ok.is c.read_price.ensures in
    let back : to_z w64 (of_z w64 c.in-Ok.price) ≡ c.in-Ok.price = omega (arith, ints) in
    rw back bound
