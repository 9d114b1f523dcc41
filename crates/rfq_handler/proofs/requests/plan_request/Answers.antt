use Rattle.std.proofs.Common.{◌≡◌, ◌∙◌, ap, sym, length, option_map, Some}
use Rattle.std.proofs.lemmas.Result.{IfOk-weaker}
use Rattle.venue_rules.specs.Answer.{Answer, Sender}
use Rattle.venue_rules.specs.Market.{Market, market_of}
use Rattle.rfq_room.specs.Causes.{request_cause}
use Rattle.rfq_room.specs.Plan.{Plan}
use Rattle.rfq_room.specs.Plans.{room_asked}
use Rattle.rfq_room.specs.Refusals.{cause_of}
use Rattle.rfq_room.specs.declared.refusal.Cause.TheVariants as cause
use Rattle.rfq_handler.specs.Counting.{reports_in, trades_in}
use Rattle.rfq_handler.specs.Known.{are_known}
use Rattle.rfq_handler.specs.Read.{first_room}
use Rattle.venue_request.specs.Senders.{sender}
use Rattle.rfq_handler.proofs.Requesting.{accepted-answer, asked-known, request-answer, request-holds, request-opens, sent-quiet}
use Rattle.rfq_handler.proofs.Refused.{of-request}
use Rattle.rfq_handler.proofs.requests.plan_request.Goals as goal

pub of-requires-clause-counted : goal.of-requires-clause-counted
of-requires-clause-counted c = sym (ap reports_in c.in_ok-replies-in-Ok.ensures ∙ sent-quiet c.unwrap-room.result.now c.symbol_of-symbol.result c.unwrap-room.result.now.recipients)

pub of-requires-clause-traded : goal.of-requires-clause-traded
of-requires-clause-traded c = sym (ap (λ (p : Plan). trades_in p.facts) c.in-Ok.ensures.planned)

pub returns-in_ok-replies-in-Ok-clause-planned : goal.returns-in_ok-replies-in-Ok-clause-planned
returns-in_ok-replies-in-Ok-clause-planned c = λ h e.
    let m : Market = market_of c.args.request.now.turn.market in
    let s : Sender = sender c.args.request.now.taken.now in
    let found : Some c.unwrap-room.result.now ≡ first_room c.in-Ok.plan.facts = sym (ap (option_map (λ r. r.now)) c.unwrap-room.ensures) ∙ c.opened.ensures in
    request-opens m c.unwrap-room.result.now (room_asked m c.args.rooms.now.facts c.args.request.now.taken.now.from c.args.message.now c.args.request.now.turn.moment) c.in-Ok.plan c.symbol_of-symbol.result c.in_ok-replies-in-Ok.replies.items c.of.result
    c.in-Ok.ensures.planned found c.symbol_of-symbol.ensures c.in_ok-replies-in-Ok.ensures c.of.ensures
    ∙ accepted-answer c.rooms_decide.ensures.request c.rooms_decide.ensures.opened m h s c.args.message.now c.args.request.now.turn.moment c.args.rooms.now.facts e c.in-Ok.ensures.free

pub returns-in_ok-replies-in-Ok-clause-known : goal.returns-in_ok-replies-in-Ok-clause-known
returns-in_ok-replies-in-Ok-clause-known c =
    ap (λ (a : Answer). are_known (length c.args.request.now.turn.market.participants.now.names) a.facts) c.of.ensures
    ∙ asked-known (market_of c.args.request.now.turn.market) c.args.rooms.now.facts c.args.request.now.taken.now.from c.args.message.now c.args.request.now.turn.moment c.in-Ok.plan c.in-Ok.ensures.planned

pub returns-in-Some-clause-planned : goal.returns-in-Some-clause-planned
returns-in-Some-clause-planned c =
    let m : Market = market_of c.args.request.now.turn.market in
    let is : cause_of c.in-Err.refusal ≡ Some (cause.Request c.in-Some.cause) = sym c.cause.ensures.value ∙ c.of_request.ensures ∙ ap (option_map (λ x. cause.Request x)) c.in-Some.is in
    IfOk-weaker c.refused.result _ _ (λ a e. λ h k. e ∙ request-answer c.rooms_decide.ensures.request m h (sender c.args.request.now.taken.now) c.args.message.now c.args.request.now.turn.moment c.args.rooms.now.facts (Some c.in-Some.cause) k (request-holds (request_cause m c.args.rooms.now.facts c.args.request.now.taken.now.from c.args.message.now c.args.request.now.turn.moment) c.in-Err.refusal c.in-Some.cause c.in-Err.ensures.refused is)) c.refused.ensures

pub of_request-requires : goal.of_request-requires
of_request-requires c = of-request _ c.in-Err.refusal c.cause.result c.cause.ensures.value c.in-Err.ensures.refused
