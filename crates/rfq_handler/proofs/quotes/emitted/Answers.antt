use Rattle.venue_request.specs.Senders.{sender}
use Rattle.rfq_handler.proofs.Showing.{emitted-replies}
use Rattle.rfq_handler.proofs.quotes.emitted.Goals as goal

pub returns : goal.returns
returns c =
    emitted-replies c.args.request.now.turn.market.participants.now c.args.book.now.facts (sender c.args.request.now.taken.now) c.args.quote.now c.args.place.now.quoted c.args.place.now.room.now c.args.place.now.symbol.now c.args.made.now
    c.quote_sent.result c.in_ok-replies.replies.items c.show.new.replies.items c.push.new.self.items
    c.in_ok-replies.ensures c.in_ok-show.ensures c.quote_sent.ensures c.in_ok-push.ensures.items
