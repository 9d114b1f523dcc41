use Rattle.std.proofs.Common.{◌≡◌, ◌++◌, ◌≤◌, ◌∙◌, List, ℕ, length, ap, sym, subst, append-nil, OnOk}
use Rattle.fix_fields.specs.Forms.{price_text}
use Rattle.trade_blotter.specs.Line.{value_in}
use Rattle.trade_blotter.proofs.Prices.{has_length, has_value}
use Rattle.trade_blotter.proofs.line.append_price.Goals as goal

pub value_of-requires : goal.value_of-requires
value_of-requires c = subst (λ (field : List ℕ). 4 ≤ length field) (sym (c.bytes.ensures ∙ c.in_ok-field.ensures)) (has_length (price_text c.args.price))

pub returns : goal.returns
returns c =
    let value : c.value_of.result.now ≡ price_text c.args.price = c.value_of.ensures ∙ ap value_in (c.bytes.ensures ∙ c.in_ok-field.ensures) ∙ has_value (price_text c.args.price) in
    subst (λ (text : List ℕ). OnOk c.append.result (c.append.new.line.items ≡ c.args.line.now.items ++ text)) (append-nil c.value_of.result.now ∙ value) c.append.ensures
