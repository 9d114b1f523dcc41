use Rattle.std.specs.Prelude.{◌≡◌, ◌≢◌, ℕ, List, [], ◌∷◌, ◌++◌, Option, Some, None}
use Rattle.fix_dictionary.specs.declared.values.Side.{Side}
use Rattle.instruments.specs.Listing.{symbol_of}
use Rattle.venue_rules.specs.declared.replies.Reply.{Reply}
use Rattle.venue_rules.specs.declared.replies.ReplyBody.{ReplyBody}
use Rattle.venue_rules.specs.declared.replies.ReplyBody.TheVariants.{OrderEntered, OrderCancelled, OrderReplaced}
use Rattle.venue_rules.specs.Market.{Market}
use Rattle.venue_rules.specs.Book.{resting}
use Rattle.venue_rules.specs.MoreInputs.{answer_after}
use Rattle.venue_rules.specs.Run.{Input, run}

-- The book that an input changes.

-- the symbol (55) of the report of an order that entered, replaced another, or was cancelled
abbrev pub order_symbol : ReplyBody → Option (List ℕ)
order_symbol (OrderEntered r) = Some r.symbol
order_symbol (OrderReplaced r) = Some r.order.symbol
order_symbol (OrderCancelled r) = Some r.order.symbol
order_symbol _ = None

-- that of the report with which an answer begins, if it begins with one
abbrev pub reported_symbol : List Reply → Option (List ℕ)
reported_symbol [] = None
reported_symbol (r ∷ rs) = order_symbol r.what

-- a further input leaves the resting orders of each instrument as they were, unless its answer begins with the report
-- of an order of this instrument
abbrev pub OneBookChanges : Market → List Input → Type 0
OneBookChanges m is =
    (i : Input) (x : ℕ) (side : Side) → reported_symbol (answer_after m is i).replies ≢ Some (symbol_of m.instruments x) → resting (run m (is ++ i ∷ [])).history.facts x side ≡ resting (run m is).history.facts x side
