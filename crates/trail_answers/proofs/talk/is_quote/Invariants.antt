use Rattle.std.proofs.Common.{◌≡◌, drop}
use Rattle.trail_answers.specs.Talk.{is_quote}
use Rattle.trail_answers.proofs.talk.is_quote.Given as goal

abbrev pub invariant-loop-quote : goal.invariant-loop-quote
invariant-loop-quote l = is_quote (drop l.quote-index l.quotes) l.id ≡ is_quote l.quotes l.id
