use Rattle.std.proofs.Common.{◌≡◌, ◌∙◌, ap, sym, ◌==◌, length, option_map, Some}
use Rattle.venue_rules.specs.Answer.{Answer}
use Rattle.venue_rules.specs.Rooms.{find_room, room_by_number}
use Rattle.rfq_handler.specs.Counting.{reports_in}
use Rattle.rfq_handler.specs.Quoted.{quote_replies}
use Rattle.rfq_handler.specs.Read.{first_made}
use Rattle.venue_request.specs.Senders.{sender}
use Rattle.rfq_handler.proofs.Lists.{is-there}
use Rattle.rfq_handler.proofs.Makers.{planned-made, planned-maker, planned-number, planned-room, quote-untraded}
use Rattle.rfq_handler.proofs.Quoting.{planned-answer, replies-quiet}
use Rattle.rfq_handler.proofs.Rooms.{find-listed}
use Rattle.rfq_handler.proofs.quotes.accepted.Goals as goal

pub unwrap-room-requires : goal.unwrap-room-requires
unwrap-room-requires c =
    let first : Some c.unwrap-made.result.now ≡ first_made c.args.plan.facts = sym (ap (option_map (λ q. q.now)) c.unwrap-made.ensures) ∙ c.made.ensures in
    is-there (λ r. r.now) c.room.result (find_room c.args.rooms.now.facts c.args.quote.now.request_id)
    (c.room.ensures ∙ planned-number c.args.rooms.now.facts c.args.request.now.taken.now.from c.args.quote.now c.args.plan c.unwrap-made.result.now c.requires.planned first)
    (planned-room c.args.rooms.now.facts c.args.request.now.taken.now.from c.args.quote.now c.args.plan c.requires.planned)

pub unwrap-made-requires : goal.unwrap-made-requires
unwrap-made-requires c =
    is-there (λ q. q.now) c.made.result (first_made c.args.plan.facts) c.made.ensures
    (planned-made c.args.rooms.now.facts c.args.request.now.taken.now.from c.args.quote.now c.args.plan c.requires.planned)

pub symbol_of-symbol-requires : goal.symbol_of-symbol-requires
symbol_of-symbol-requires c =
    let found : room_by_number c.args.rooms.now.facts c.unwrap-made.result.now.room ≡ Some c.unwrap-room.result.now = sym c.room.ensures ∙ ap (option_map (λ r. r.now)) c.unwrap-room.ensures in
    find-listed (length c.args.request.now.turn.market.instruments.now) (λ r. r.number == c.unwrap-made.result.now.room) c.args.rooms.now.facts c.unwrap-room.result.now c.requires.listed found

pub emitted-requires : goal.emitted-requires
emitted-requires c =
    let first : Some c.unwrap-made.result.now ≡ first_made c.args.plan.facts = sym (ap (option_map (λ q. q.now)) c.unwrap-made.ensures) ∙ c.made.ensures in
    planned-maker c.args.rooms.now.facts c.args.request.now.taken.now.from c.args.quote.now c.args.plan c.unwrap-made.result.now (length c.args.request.now.turn.market.participants.now.names) c.requires.planned first c.requires.known

pub of-requires-clause-counted : goal.of-requires-clause-counted
of-requires-clause-counted c =
    replies-quiet c.args.request.now.turn.market.participants.now c.args.book.now.facts (sender c.args.request.now.taken.now) c.args.quote.now c.has_quote-quoted.result c.unwrap-room.result.now c.symbol_of-symbol.result c.unwrap-made.result.now
    ∙ sym (ap reports_in c.in_ok-replies.ensures)

pub of-requires-clause-traded : goal.of-requires-clause-traded
of-requires-clause-traded c = quote-untraded c.args.rooms.now.facts c.args.request.now.taken.now.from c.args.quote.now c.args.plan c.requires.planned

pub returns-clause-facts : goal.returns-clause-facts
returns-clause-facts c = ap (λ (a : Answer). a.facts) c.of.ensures

pub returns-clause-emitted : goal.returns-clause-emitted
returns-clause-emitted c =
    let first : Some c.unwrap-made.result.now ≡ first_made c.args.plan.facts = sym (ap (option_map (λ q. q.now)) c.unwrap-made.ensures) ∙ c.made.ensures in
    let number = c.room.ensures ∙ planned-number c.args.rooms.now.facts c.args.request.now.taken.now.from c.args.quote.now c.args.plan c.unwrap-made.result.now c.requires.planned first in
    let found : find_room c.args.rooms.now.facts c.args.quote.now.request_id ≡ Some c.unwrap-room.result.now = sym number ∙ ap (option_map (λ r. r.now)) c.unwrap-room.ensures in
    planned-answer c.args.request.now.turn.market.participants.now c.args.request.now.turn.market.instruments.now c.args.rooms.now.facts c.args.book.now.facts (sender c.args.request.now.taken.now) c.args.quote.now c.unwrap-room.result.now c.unwrap-made.result.now
    c.args.plan c.symbol_of-symbol.result c.in_ok-replies.replies.items c.of.result
    found c.requires.planned first c.symbol_of-symbol.ensures
    (c.in_ok-replies.ensures ∙ ap (λ b. quote_replies c.args.request.now.turn.market.participants.now c.args.book.now.facts (sender c.args.request.now.taken.now) c.args.quote.now b c.unwrap-room.result.now c.symbol_of-symbol.result c.unwrap-made.result.now) c.has_quote-quoted.ensures)
    c.of.ensures
