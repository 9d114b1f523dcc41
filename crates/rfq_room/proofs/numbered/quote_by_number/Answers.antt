use Rattle.std.proofs.Common.{◌∙◌, ap, sym, ℕ, ◌<◌, ◌-◌, ◌==◌, find, arith}
use Rattle.venue_rules.specs.declared.facts.RoomQuote.{RoomQuote}
use Rattle.rfq_room.proofs.Numbering.{got, none-below, placed}
use Rattle.rfq_room.proofs.numbered.quote_by_number.Goals as goal

pub returns-then-number-eq0 : goal.returns-then-number-eq0
returns-then-number-eq0 c = sym (ap (λ (n : ℕ). find (λ (x : RoomQuote). x.number == n) c.args.quotes.now) c.if-number-eq0.true ∙ none-below (λ (x : RoomQuote). x.number) c.args.quotes.now 0 c.requires)

pub returns : goal.returns
returns c =
    let more : 0 < c.args.number = omega (arith, c.if-number-eq0.false) in
    got c.args.quotes.now (c.args.number - 1) c.get.result c.get.ensures.lookup ∙ sym (placed (λ (x : RoomQuote). x.number) c.args.quotes.now c.args.number c.requires more)
