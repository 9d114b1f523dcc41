use Rattle.std.proofs.Common.{◌≡◌, ◌++◌, ◌∷◌, ◌+◌, ◌/◌, ◌%◌, ◌<◌, [], ℕ, List, length, decimal, ap, subst, ◌∙◌, arith, unsigned_abs, to_z, of_z, w64, vec_len, vec_capacity, OnErr}
use Rattle.std.proofs.lemmas.Int.{ints}
use Rattle.fix_fields.specs.Fields.{Appends, field_text}
use Rattle.fix_fields.specs.Forms.{six_digits, without_trailing_zeros, point_text, sign_text, price_text}
use Rattle.fix_fields.proofs.PrintLemmas.{price_field}
use Rattle.fix_fields.proofs.append.append_price.Goals as goal

-- the parts that are appended
abbrev parts : goal.After-whole_digits-2-1 → List ℕ
parts c = c.as_bytes.result.now ++ (61 ∷ (c.sign_of.result.now ++ (c.as_bytes-2.result.now ++ (c.point_of.result.now ++ (c.without_trailing_zeros.result.now ++ 1 ∷ [])))))

same : (c : goal.After-whole_digits-2-1) → parts c ≡ field_text c.args.tag (price_text c.args.price)
same c =
    let back : to_z w64 (of_z w64 c.args.price) ≡ c.args.price = omega (arith, ints) in
    let magnitude : c.magnitude_of-millionths.result ≡ unsigned_abs c.args.price = c.magnitude_of-millionths.ensures ∙ ap unsigned_abs back in
    price_field c.args.tag c.args.price c.as_bytes.result.now c.sign_of.result.now c.as_bytes-2.result.now c.point_of.result.now c.without_trailing_zeros.result.now
    (c.as_bytes.ensures.value ∙ c.format.ensures.text) (c.sign_of.ensures ∙ ap sign_text back)
    (c.as_bytes-2.ensures.value ∙ c.format-2.ensures.text ∙ ap (λ (n : ℕ). decimal (n / 1_000_000)) magnitude)
    (c.point_of.ensures ∙ ap (λ (n : ℕ). point_text (n % 1_000_000)) magnitude)
    (c.without_trailing_zeros.ensures ∙ ap without_trailing_zeros (c.six_digits.ensures ∙ ap (λ (n : ℕ). six_digits (n % 1_000_000)) magnitude))

pub returns-clause-appends : goal.returns-clause-appends
returns-clause-appends c =
    subst (λ (text : List ℕ). Appends c.args.bytes.now.items c.append_parts.new.bytes.items text c.append_parts.result) (same c) c.append_parts.ensures.appends

pub returns-clause-headroom : goal.returns-clause-headroom
returns-clause-headroom c =
    subst (λ (text : List ℕ). OnErr c.append_parts.result (vec_capacity c.args.bytes.now < vec_len c.args.bytes.now + length text)) (same c) c.append_parts.ensures.headroom
