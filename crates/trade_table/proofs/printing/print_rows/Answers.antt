use Rattle.std.proofs.Common.{◌≡◌, ◌+◌, ◌++◌, [], ◌∷◌, List, ℕ, take, sym, ap, subst, ◌∙◌, arith, append-nil}
use Rattle.std.proofs.KnownBytes.{Appends-trans}
use Rattle.std.proofs.lemmas.Grind.{flat_map-append}
use Rattle.std.proofs.lemmas.List.{take_more}
use Rattle.std.specs.Io.KnownBytes.{Appends}
use Rattle.std.specs.List.{flat_map}
use Rattle.trade_table.specs.Table.{table_row}
use Rattle.trade_table.proofs.printing.print_rows.Goals as goal

-- the texts so far, and the one of this trade
pub loop-trade-preserved : goal.loop-trade-preserved
loop-trade-preserved g c = λ h is.
    let xs = c.trades-trade-items.result.now in
    let i = c.loop-trade.trade-index in
    let x = c.trade-item.result in
    let f = table_row c.args.venue.now.market h c.args.executions.now in
    let more : take (i + 1) xs ≡ take i xs ++ x ∷ [] = take_more xs i x (omega arith) ∙ ap (λ y. take i xs ++ y ∷ []) (sym c.trade-item.is) in
    let texts : flat_map f (take (i + 1) xs) ≡ flat_map f (take i xs) ++ f x = ap (flat_map f) more ∙ flat_map-append f (take i xs) (x ∷ []) ∙ ap (λ (l : List ℕ). flat_map f (take i xs) ++ l) (append-nil (f x)) in
    subst (Appends _ _) (sym texts) (Appends-trans _ _ _ (flat_map f (take i xs)) (f x) (c.loop-trade.invariant h is) (c.in_ok-print_row.ensures.emitted h is))
