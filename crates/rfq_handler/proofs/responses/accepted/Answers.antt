use Rattle.std.proofs.Common.{◌≡◌, ◌∙◌, ap, sym, length, is_some, option_map, Some}
use Rattle.std.proofs.lemmas.Result.{IfOk-weaker}
use Rattle.venue_rules.specs.Rooms.{find_quote}
use Rattle.rfq_room.specs.Named.{quote_room}
use Rattle.rfq_handler.specs.Read.{first_answered}
use Rattle.venue_request.specs.Senders.{sender}
use Rattle.rfq_handler.proofs.Lists.{is-there}
use Rattle.rfq_handler.proofs.Responding.{answered-quote, number-there, quote-there, room-listed, room-of, emitted-of}
use Rattle.rfq_handler.proofs.responses.accepted.Goals as goal

pub unwrap-number-requires : goal.unwrap-number-requires
unwrap-number-requires c = ap is_some c.answered_quote.ensures ∙ number-there c.args.rooms.now.facts c.args.response.now.quote_id c.args.plan.facts c.requires.quote

pub unwrap-quote-requires : goal.unwrap-quote-requires
unwrap-quote-requires c =
    let id = c.args.response.now.quote_id in
    let number : Some c.unwrap-number.result ≡ first_answered c.args.plan.facts = sym c.unwrap-number.ensures ∙ c.answered_quote.ensures in
    is-there (λ q. q.now) c.quote.result (find_quote c.args.rooms.now.facts id)
    (c.quote.ensures ∙ answered-quote c.args.rooms.now.facts id c.args.plan.facts c.unwrap-number.result c.requires.quote number) (quote-there c.args.rooms.now.facts id c.args.plan.facts c.requires.quote)

pub unwrap-room-requires : goal.unwrap-room-requires
unwrap-room-requires c =
    let id = c.args.response.now.quote_id in
    let number : Some c.unwrap-number.result ≡ first_answered c.args.plan.facts = sym c.unwrap-number.ensures ∙ c.answered_quote.ensures in
    let found : find_quote c.args.rooms.now.facts id ≡ Some c.unwrap-quote.result.now = sym (c.quote.ensures ∙ answered-quote c.args.rooms.now.facts id c.args.plan.facts c.unwrap-number.result c.requires.quote number) ∙ ap (option_map (λ q. q.now)) c.unwrap-quote.ensures in
    is-there (λ r. r.now) c.room.result (quote_room c.args.rooms.now.facts c.args.response.now.quote_id) (c.room.ensures ∙ room-of c.args.rooms.now.facts c.args.response.now.quote_id c.unwrap-quote.result.now found) c.requires.room

pub accepted_in-requires-clause-listed : goal.accepted_in-requires-clause-listed
accepted_in-requires-clause-listed c =
    let id = c.args.response.now.quote_id in
    let number : Some c.unwrap-number.result ≡ first_answered c.args.plan.facts = sym c.unwrap-number.ensures ∙ c.answered_quote.ensures in
    let found : find_quote c.args.rooms.now.facts id ≡ Some c.unwrap-quote.result.now = sym (c.quote.ensures ∙ answered-quote c.args.rooms.now.facts id c.args.plan.facts c.unwrap-number.result c.requires.quote number) ∙ ap (option_map (λ q. q.now)) c.unwrap-quote.ensures in
    let room = sym (c.room.ensures ∙ room-of c.args.rooms.now.facts c.args.response.now.quote_id c.unwrap-quote.result.now found) ∙ ap (option_map (λ r. r.now)) c.unwrap-room.ensures in
    room-listed (length c.args.request.now.turn.market.instruments.now) c.args.rooms.now.facts c.args.response.now.quote_id c.unwrap-room.result.now c.requires.listed room

pub returns-clause-emitted : goal.returns-clause-emitted
returns-clause-emitted c =
    let id = c.args.response.now.quote_id in
    let number : Some c.unwrap-number.result ≡ first_answered c.args.plan.facts = sym c.unwrap-number.ensures ∙ c.answered_quote.ensures in
    let found : find_quote c.args.rooms.now.facts id ≡ Some c.unwrap-quote.result.now = sym (c.quote.ensures ∙ answered-quote c.args.rooms.now.facts id c.args.plan.facts c.unwrap-number.result c.requires.quote number) ∙ ap (option_map (λ q. q.now)) c.unwrap-quote.ensures in
    let room = sym (c.room.ensures ∙ room-of c.args.rooms.now.facts c.args.response.now.quote_id c.unwrap-quote.result.now found) ∙ ap (option_map (λ r. r.now)) c.unwrap-room.ensures in
    IfOk-weaker c.accepted_in.result _ _ (λ a e. emitted-of c.args.request.now.turn.market.instruments.now c.args.rooms.now.facts c.args.request.now.turn.counts.reports c.args.request.now.turn.counts.trades (sender c.args.request.now.taken.now) c.args.response.now c.args.plan.hit a.replies c.unwrap-quote.result.now c.unwrap-room.result.now found room e) c.accepted_in.ensures.emitted
