use Rattle.std.proofs.Common.{◌≡◌, ap, sym, ◌∙◌, ℕ, ◌+◌, ◌<◌, List, [], ◌∷◌, ◌++◌, length, take, get_or, length-append}
use Rattle.std.proofs.lemmas.List.{take_more}
use Rattle.std.proofs.lemmas.List.Elements.{filter_map-append}
use Rattle.venue_rules.specs.declared.facts.Fact.{Fact}
use Rattle.venue_rules.specs.Facts.{trades, trade_in}

-- the count of trades, after one fact
pub trades_more : (fs : List Fact) (i : ℕ) (f : Fact) → i < length fs → f ≡ get_or fs i f → length (trades (take (i + 1) fs)) ≡ length (trades (take i fs)) + length (trades (f ∷ []))
trades_more fs i f h e = ap (λ xs. length (trades xs)) (take_more fs i f h ∙ ap (λ y. take i fs ++ y ∷ []) (sym e)) ∙ ap length (filter_map-append trade_in (take i fs) (f ∷ [])) ∙ length-append (trades (take i fs)) (trades (f ∷ []))
