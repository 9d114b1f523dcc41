use Rattle.std.proofs.Common.{◌≡◌, take, filter, option_map}
use Rattle.rfq_room.specs.Views.{is_taken}
use Rattle.rfq_room.proofs.live.taken_quotes.Given as goal

abbrev pub invariant-loop-quote : goal.invariant-loop-quote
invariant-loop-quote l = l.taken.items ≡ filter (is_taken l.known_flags.facts l.maker l.moment (option_map (λ n. n.now) l.named)) (take l.quote-index l.quotes)
