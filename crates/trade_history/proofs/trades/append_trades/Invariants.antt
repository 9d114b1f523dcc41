use Rattle.std.proofs.Common.{◌≡◌, ◌≤◌, ◌+◌, ◌++◌, length, drop}
use Rattle.std.specs.Vec.{vec_capacity, vec_len}
use Rattle.venue_rules.specs.Facts.{trades}
use Rattle.trade_history.specs.Traded.{read_from}
use Rattle.trade_history.proofs.trades.append_trades.Given as goal

-- what is read, plus what is left, is the whole; and capacity is reserved for what is left
abbrev pub invariant-loop-fact : goal.invariant-loop-fact
invariant-loop-fact l = record {
  read : l.read.items ++ read_from (length l.read.items + 1) (trades (drop l.fact-index l.facts)) ≡ l.fn.read.items ++ read_from (length l.fn.read.items + 1) (trades l.facts);
  room : vec_len l.read + length (trades (drop l.fact-index l.facts)) ≤ vec_capacity l.read;
}
