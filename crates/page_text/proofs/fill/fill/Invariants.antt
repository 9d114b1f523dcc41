use Rattle.std.proofs.Common.{◌≡◌, ◌++◌, drop}
use Rattle.page_text.specs.declared.spot.Reading.TheVariants.{Own}
use Rattle.page_text.specs.Parts.{filled, spot_of}
use Rattle.page_text.specs.Spots.{after}
use Rattle.page_text.specs.Texts.{texts}
use Rattle.page_text.proofs.fill.fill.Given as goal

-- what stands there, and then the rest of the template with the values that are left, is the whole
abbrev pub invariant-loop-byte : goal.invariant-loop-byte
invariant-loop-byte l =
    (l.out.items ++ filled l.reading (drop l.byte-index l.template) (texts l.rest) ≡ l.fn.out.items ++ filled (Own l.fn.spot) l.template (texts l.fn.values))
    × (after (spot_of l.reading) (filled l.reading (drop l.byte-index l.template) (texts l.rest)) ≡ after l.fn.spot (filled (Own l.fn.spot) l.template (texts l.fn.values)))
