use Rattle.std.proofs.Common.{◌≡◌, ◌++◌, map, take}
use Rattle.trade_reconstruction.specs.EventKinds.{shown_word}
use Rattle.trade_reconstruction.proofs.event_kind.push_shown.Given as goal

abbrev pub invariant-loop-entry : goal.invariant-loop-entry
invariant-loop-entry l = l.words.items ≡ l.fn.words.items ++ map (shown_word l.row l.moment l.to l.request) (take l.entry-index l.entries)
