-- A loop that counts the instruments whose delay was adjusted.
use Rattle.std.specs.Prelude.{◌≡◌, ℕ, suc, ◌+◌, ◌-◌, ◌<◌, ◌≤◌, List}
use Rattle.std.proofs.Common.{ap, arith}
use Rattle.instruments.specs.declared.instruments.Instrument.{Instrument}
use Rattle.instruments.specs.Listing.{delay_of}
use Rattle.rule_counts.specs.Counts.{adjusted_from, is_adjusted, one_if}

pub counted_on : (xs : List Instrument) (k n count more whole : ℕ) → k < n → more ≡ count + one_if (is_adjusted (delay_of xs k))
    → count + adjusted_from xs k (n - k) ≡ whole → more + adjusted_from xs (k + 1) (n - (k + 1)) ≡ whole
counted_on xs k n count more whole below e h =
    let longer : n - k ≡ suc (n - (k + 1)) = omega arith in
    let parts : adjusted_from xs k (n - k) ≡ one_if (is_adjusted (delay_of xs k)) + adjusted_from xs (k + 1) (n - (k + 1)) = ap (adjusted_from xs k) longer in
    omega (arith, e, parts, h)

pub counted_out : (xs : List Instrument) (k n count whole : ℕ) → n ≤ k → count + adjusted_from xs k (n - k) ≡ whole → count ≡ whole
counted_out xs k n count whole past h =
    let none : n - k ≡ 0 = omega arith in
    let end : adjusted_from xs k (n - k) ≡ 0 = ap (adjusted_from xs k) none in
    omega (arith, end, h)
