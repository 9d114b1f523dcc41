use Rattle.std.proofs.Common.{◌≡◌, ◌∙◌, ap, sym, Some, None, option_map}
use Rattle.std.specs.Option.{option_copied}
use Rattle.price_book.specs.Live.{seen_slot}
use Rattle.price_book.specs.Numbered.{slot_at}
use Rattle.price_book.proofs.standing.numbered.Goals as goal

pub returns-in-Some : goal.returns-in-Some
returns-in-Some c =
    let got : slot_at c.args.stored_orders.now.entries c.args.number ≡ Some c.in-Some.stored_order.now = sym c.get.ensures.value ∙ ap option_copied c.in-Some.is in
    ap Some c.lent.ensures ∙ sym (ap (option_map seen_slot) got)

pub returns-in-None : goal.returns-in-None
returns-in-None c =
    let got : slot_at c.args.stored_orders.now.entries c.args.number ≡ None = sym c.get.ensures.value ∙ ap option_copied c.in-None.is in
    sym (ap (option_map seen_slot) got)
