use Rattle.std.proofs.Common.{◌≡◌, ◌++◌, take}
use Rattle.std.specs.List.{flat_map}
use Rattle.trade_table.specs.Sources.{known_by}
use Rattle.trade_table.proofs.sources.push_all_known.Given as goal

abbrev pub invariant-loop-reply : goal.invariant-loop-reply
invariant-loop-reply l = l.known.items ≡ l.fn.known.items ++ flat_map (known_by l.app) (take l.reply-index l.replies)
