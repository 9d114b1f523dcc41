-- The trades of two runs of the same rows, A and B: those that B lost, and those that it gained.
--
--     lost: T5 BASIS1Y 5 @ -1 buyer GAMMA seller BETA
--     gained: T5 BASIS1Y 5 @ -1 buyer GAMMA seller ALPHA
--     trades: 5 in A, 5 in B: 1 lost, 1 gained
use Rattle.std.specs.Prelude.{ℕ, ◌+◌, ◌==◌, ◌&&◌, ◌||◌, Bool, is_some, nat_lt, List, [], ◌∷◌, ◌++◌, length, take, codes, decimal, if◌then◌else◌}
use Rattle.std.specs.List.{count_by, flat_map, list_any}
use Rattle.std.specs.Ordering.{int_eq}
use Rattle.venue_rules.specs.declared.trail.TradeFact.{TradeFact}
use Rattle.venue_rules.specs.Market.{Market}
use Rattle.trade_blotter.specs.Line.{deal}

-- of the same instrument, quantity, price, buyer and seller
abbrev pub is_like : TradeFact → TradeFact → Bool
is_like t u = t.instrument == u.instrument && (t.quantity == u.quantity && (int_eq t.price u.price && (t.buyer == u.buyer && t.seller == u.seller)))

-- the other run has fewer trades like this one than there are up to it
abbrev pub is_alone : (all others : List TradeFact) → ℕ → TradeFact → Bool
is_alone all others k t = nat_lt (count_by (is_like t) others) (count_by (is_like t) (take (k + 1) all))

abbrev pub alone_at : (all others : List TradeFact) → ℕ → TradeFact → List TradeFact
alone_at all others k t = if is_alone all others k t then t ∷ [] else []

abbrev pub alone_from : (all others : List TradeFact) → ℕ → List TradeFact → List TradeFact
alone_from all others k [] = []
alone_from all others k (t ∷ ts) = alone_at all others k t ++ alone_from all others (k + 1) ts

-- the trades of one run that the other has not, each as often as it has fewer
abbrev pub alone : (all others : List TradeFact) → List TradeFact
alone all others = alone_from all others 0 all

-- neither run has a trade that the other has not
abbrev pub are_same_trades : (one other : List TradeFact) → Bool
are_same_trades one other = length (alone one other) == 0 && length (alone other one) == 0

abbrev pub trade_line : List ℕ → Market → TradeFact → List ℕ
trade_line label m t = label ++ (decimal t.number ++ (codes " " ++ (deal m t ++ codes "\n")))

abbrev pub trade_lines : List ℕ → Market → List TradeFact → List ℕ
trade_lines label m ts = flat_map (trade_line label m) ts

abbrev pub counts_line : (one other fewer more : ℕ) → List ℕ
counts_line one other fewer more =
    flat_map (λ (p : List ℕ). p) (codes "trades: " ∷ decimal one ∷ codes " in A, " ∷ decimal other ∷ codes " in B: " ∷ decimal fewer ∷ codes " lost, " ∷ decimal more ∷ codes " gained\n" ∷ [])

-- a trade by a quote: quotes and hits name the numbers that A gave
abbrev pub is_in_room : TradeFact → Bool
is_in_room t = is_some t.room

abbrev pub numbers_said : List ℕ
numbers_said = codes "quotes and hits name the numbers that A gave to requests and quotes; where B gives others, trades in rooms may be lost or gained by that alone\n"

abbrev pub numbers_line : Bool → List ℕ
numbers_line in_room = if in_room then numbers_said else []

-- where such a trade is lost or gained
abbrev pub rooms_line : (one other : List TradeFact) → List ℕ
rooms_line one other = numbers_line (list_any is_in_room (alone one other) || list_any is_in_room (alone other one))

abbrev pub lost : List ℕ
lost = codes "lost: T"

abbrev pub gained : List ℕ
gained = codes "gained: T"

abbrev pub trades_text : (m n : Market) → (one other : List TradeFact) → List ℕ
trades_text m n one other =
    trade_lines lost m (alone one other)
    ++ (trade_lines gained n (alone other one)
    ++ (counts_line (length one) (length other) (length (alone one other)) (length (alone other one))
    ++ rooms_line one other))
