use Rattle.std.specs.Prelude.{◌≡◌, ℕ, cond, List, [], ◌∷◌, ◌++◌, if◌then◌else◌}
use Rattle.fix_dictionary.specs.declared.values.Side.{Side}
use Rattle.venue_rules.specs.declared.facts.Fact.{Fact}
use Rattle.venue_rules.specs.declared.facts.Fact.TheVariants.{Entered, Traded, Removed}
use Rattle.venue_rules.specs.declared.facts.Entry.{Entry}
use Rattle.venue_rules.specs.declared.facts.Trade.{Trade}
use Rattle.venue_rules.specs.declared.facts.Removal.{Removal}
use Rattle.venue_rules.specs.declared.facts.TradeSource.TheVariants.{Book as InBook}
use Rattle.venue_rules.specs.Book.{Resting, is_better, rests, resting}
use Rattle.price_book.specs.Live.{whole_order, reduced, without}
use Rattle.price_book.specs.Known.{IsKnown, Fits}

-- an order put behind those that it does not beat, as the latest entry is
abbrev pub rank_last : Side → Resting → List Resting → List Resting
rank_last side r [] = r ∷ []
rank_last side r (s ∷ ss) = if is_better side r.entry.order.price s.entry.order.price then r ∷ s ∷ ss else s ∷ rank_last side r ss

-- an entering order goes behind all of its side that are as good, where it may rest
abbrev pub EntryRanks : Type 0
EntryRanks = (facts : List Fact) (e : Entry) (x : ℕ) (side : Side) → IsKnown facts → Fits facts (Entered e) → resting (facts ++ Entered e ∷ []) x side ≡ cond (rests x side (whole_order e)) (rank_last side (whole_order e) (resting facts x side)) (resting facts x side)

-- a trade reduces its two orders in place
abbrev pub TradeRanks : Type 0
TradeRanks = (facts : List Fact) (t : Trade) (a b x : ℕ) (side : Side) → IsKnown facts → t.place ≡ InBook a b → Fits facts (Traded t) → resting (facts ++ Traded t ∷ []) x side ≡ reduced b t.quantity (reduced a t.quantity (resting facts x side))

-- a removal takes its order out
abbrev pub RemovalRanks : Type 0
RemovalRanks = (facts : List Fact) (r : Removal) (x : ℕ) (side : Side) → IsKnown facts → Fits facts (Removed r) → resting (facts ++ Removed r ∷ []) x side ≡ without r.order (resting facts x side)
