use Rattle.std.proofs.Common.{◌≡◌, drop}
use Rattle.std.specs.List.{flat_map}
use Rattle.page_text.specs.Parts.{with_parts}
use Rattle.request_sections.specs.Shown.{price_parts}
use Rattle.request_sections.proofs.shown.add_each_price.Given as goal

-- the parts so far, and then those of the others, are all
abbrev pub invariant-loop-price : goal.invariant-loop-price
invariant-loop-price l = with_parts l.page (flat_map (price_parts l.tick) (drop l.price-index l.prices)) ≡ with_parts l.fn.page (flat_map (price_parts l.tick) l.prices)
