use Rattle.std.proofs.Common.{◌≡◌, ◌≤◌, ◌∙◌, List, ℕ, length, ap, sym, subst}
use Rattle.fix_fields.specs.Forms.{price_text}
use Rattle.day_tables.specs.Values.{value_in}
use Rattle.std.proofs.lemmas.Result.{IfOk-weaker}
use Rattle.day_tables.proofs.Prices.{has_length, has_value}
use Rattle.day_tables.proofs.values.price_bytes.Goals as goal

pub value_of-requires : goal.value_of-requires
value_of-requires c = subst (λ (field : List ℕ). 4 ≤ length field) (sym (c.bytes.ensures ∙ c.in_ok-field.ensures)) (has_length (price_text c.args.price))

pub returns : goal.returns
returns c =
    IfOk-weaker c.from_slice.result _ _ (λ text. λ e. e ∙ (c.value_of.ensures ∙ (ap value_in (c.bytes.ensures ∙ c.in_ok-field.ensures) ∙ has_value (price_text c.args.price)))) c.from_slice.ensures.items
