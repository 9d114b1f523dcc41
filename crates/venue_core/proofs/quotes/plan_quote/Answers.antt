use Rattle.std.proofs.Common.{◌∙◌, sym, subst, ℕ, ◌≤◌, Option, Some, None, length, arith}
use Rattle.venue_rules.specs.declared.trail.RoomFact.{RoomFact}
use Rattle.venue_rules.specs.Market.{market_of}
use Rattle.venue_request.specs.Senders.{sender}
use Rattle.venue_core.specs.Read.{IsReadWith, read_count}
use Rattle.venue_core.proofs.FirstQuotes.{quote-is-read}
use Rattle.venue_core.proofs.quotes.plan_quote.Goals as goal

at-most : {room : ℕ} (read : Option RoomFact) → 1 ≤ room → read_count read ≤ room
at-most None h = omega (arith)
at-most (Some r) h = h

pub returns-clause-fit : goal.returns-clause-fit
returns-clause-fit c = rw c.of_rooms.ensures (record {
  plan = c.in_ok-answer.ensures.made;
  listed = c.in_ok-answer.ensures.listed (length c.args.request.now.turn.market.instruments.now);
  known = c.in_ok-answer.ensures.known (length c.args.request.now.turn.market.participants.now.names);
  read = record {
    room = at-most (c.in_ok-read.read) c.in_ok-reserve.ensures.room;
    right = λ h s. subst (IsReadWith h.facts c.in_ok-answer.answer.facts) (sym c.in_ok-read.ensures) (quote-is-read c.rooms_decide.ensures.quote c.rooms_decide.ensures.first (market_of c.args.request.now.turn.market) h (sender c.args.request.now.taken.now) c.args.quote.now c.args.request.now.turn.moment c.plan_quote.new.rooms.facts c.in_ok-answer.answer s.rooms (c.in_ok-answer.ensures.planned h (s.rooms ∙ c.plan_quote.ensures.kept) s.book));
  };
})
