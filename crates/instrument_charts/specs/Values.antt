-- The values of the places of a chart.
use Rattle.std.specs.Prelude.{◌≡◌, ℕ, ◌<◌, List, codes, get_or, length}
use Rattle.fix_dictionary.specs.declared.values.Side.{Side}
use Rattle.fix_dictionary.specs.declared.values.Side.TheVariants.{Buy, Sell}

abbrev pub quoted_side : Side → List ℕ
quoted_side Buy = codes "bid"
quoted_side Sell = codes "offer"

abbrev pub sides_of : Side → List ℕ
sides_of Buy = codes "bids"
sides_of Sell = codes "offers"

-- a list of n things, each what a function says of its place; x is read past its end
abbrev pub HasEach : {X : Type 0} → X → (ℕ → X) → ℕ → List X → Type 0
HasEach x f n xs = (length xs ≡ n) × ((k : ℕ) → k < n → get_or xs k x ≡ f k)
