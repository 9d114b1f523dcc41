-- The newest report of an end is the last that fits.
use Rattle.std.proofs.Common.{◌≡◌, ℕ, ◌+◌, ◌-◌, ◌<◌, ◌≤◌, List, [], ◌∷◌, ◌++◌, length, take, get_or, Option, Some, None, refl, sym, ap, ◌∙◌, arith}
use Rattle.std.proofs.lemmas.List.{take_more}
use Rattle.trade_reconstruction.specs.declared.quote_note.Ended.{Ended}
use Rattle.trade_reconstruction.specs.QuoteNotes.{newest, or}

or_assoc : (x y z : Option Ended) → or (or x y) z ≡ or x (or y z)
or_assoc None y z = refl
or_assoc (Some x) y z = refl

or_nothing : (o : Option Ended) → o ≡ or o None
or_nothing None = refl
or_nothing (Some y) = refl

newest_more : (pick : Ended → Option Ended) (xs : List Ended) (x : Ended) → newest pick (xs ++ x ∷ []) ≡ or (pick x) (newest pick xs)
newest_more pick [] x = or_nothing (pick x)
newest_more pick (y ∷ ys) x = ap (λ o. or o (pick y)) (newest_more pick ys x) ∙ or_assoc (pick x) (newest pick ys) (pick y)

-- of those up to a place, by the last of them
pub newest_last : (pick : Ended → Option Ended) (xs : List Ended) (at : ℕ) (x : Ended) → 0 < at → at ≤ length xs → x ≡ get_or xs (at - 1) x → newest pick (take at xs) ≡ or (pick x) (newest pick (take (at - 1) xs))
newest_last pick xs at x some low is =
    let one : at ≡ at - 1 + 1 = omega (arith, some) in
    ap (λ (n : ℕ). newest pick (take n xs)) one
    ∙ ap (newest pick) (take_more xs (at - 1) x (omega (arith, some, low)) ∙ ap (λ y. take (at - 1) xs ++ y ∷ []) (sym is))
    ∙ newest_more pick (take (at - 1) xs) x
