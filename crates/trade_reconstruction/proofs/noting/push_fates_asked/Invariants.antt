use Rattle.std.proofs.Common.{◌≡◌, ◌++◌, take}
use Rattle.std.specs.List.{flat_map}
use Rattle.venue_rules.specs.Facts.{History}
use Rattle.venue_core.specs.State.{standing}
use Rattle.venue_core.specs.VenueFacts.{IsHistory}
use Rattle.trade_reconstruction.specs.QuoteNotes.{fate_of}
use Rattle.trade_reconstruction.proofs.noting.push_fates_asked.Given as goal

abbrev pub invariant-loop-word : goal.invariant-loop-word
invariant-loop-word l =
    (l.venue.market ≡ l.fn.venue.market) × (standing l.venue.day ≡ standing l.fn.venue.day) × (l.venue.items ≡ l.fn.venue.items)
    × ((h : History) → IsHistory l.fn.venue h → l.fates.items ≡ l.fn.fates.items ++ flat_map (fate_of l.fn.venue.market h l.hit l.asked l.ended) (take l.word-index l.words))
