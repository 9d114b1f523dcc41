-- The lines about what had become of each quote in a room just before the trade there, in the order in which the
-- requester was sent them.
use Rattle.std.specs.Prelude.{ℕ, Bool, true, false, List, [], ◌++◌, Option, Some, None, codes, decimal}
use Rattle.std.specs.List.{flat_map}
use Rattle.fix_dictionary.specs.declared.values.Side.{Side}
use Rattle.fix_dictionary.specs.declared.values.Side.TheVariants.{Buy, Sell}
use Rattle.trade_reconstruction.specs.declared.quote_note.Ended.{Ended}
use Rattle.trade_reconstruction.specs.declared.quote_note.Fate.{Fate}
use Rattle.trade_reconstruction.specs.declared.quote_note.Fate.TheVariants as fate
use Rattle.trade_reconstruction.specs.declared.quote_note.QuoteFate.{QuoteFate}
use Rattle.trade_reconstruction.specs.Lines.{row_text}

-- passed or withdrawn, at the row of the message that did it

abbrev pub end_text : Bool → List ℕ
end_text true = codes " had been passed"
end_text false = codes " had been withdrawn"

abbrev pub gone_text : ℕ → Option Ended → List ℕ
gone_text row None = codes " had been withdrawn" ++ row_text row
gone_text row (Some e) = end_text e.is_passed ++ row_text e.row

-- its maker quoted again, perhaps after its end
abbrev pub followed_text : ℕ → Option Ended → List ℕ
followed_text row None = codes " had been followed by another of its maker" ++ row_text row
followed_text row (Some e) = end_text e.is_passed ++ (codes " row " ++ (decimal e.row ++ (codes " and followed by another of its maker" ++ row_text row)))

abbrev pub lacks_text : Option Side → List ℕ
lacks_text None = []
lacks_text (Some Buy) = codes ", without a bid"
lacks_text (Some Sell) = codes ", without an offer"

abbrev pub live_text : Bool → Option Side → List ℕ
live_text true lacks = codes " was live and was hit"
live_text false lacks = codes " was live at the trade" ++ lacks_text lacks

abbrev pub fate_text : QuoteFate → Fate → List ℕ
fate_text f fate.Live = live_text f.is_hit f.lacks ++ row_text f.row
fate_text f fate.Replaced = followed_text f.row f.end
fate_text f fate.Withdrawn = gone_text f.row f.end
fate_text f fate.RunOut = codes " had run out" ++ row_text f.row

abbrev pub fate_line : QuoteFate → List ℕ
fate_line f = codes "quote Q" ++ (decimal f.quote ++ (codes " of " ++ (f.maker ++ fate_text f f.fate)))

-- of each quote
abbrev pub fate_lines : List QuoteFate → List ℕ
fate_lines fates = flat_map fate_line fates
