use Rattle.std.proofs.Common.{◌≡◌, refl, ◌∙◌, ap, sym, subst, length, IsSome, Some, option_map}
use Rattle.std.proofs.lemmas.Result.{IfOk-weaker}
use Rattle.venue_rules.specs.Answer.{Sender}
use Rattle.venue_rules.specs.Rooms.{find_quote}
use Rattle.rfq_room.specs.Causes.{decide}
use Rattle.rfq_room.specs.RoomStore.{are_listed}
use Rattle.rfq_room.specs.Named.{quote_room}
use Rattle.rfq_room.specs.Refusals.{cause_of}
use Rattle.rfq_room.specs.Steps.{IsPlanOf}
use Rattle.rfq_room.specs.declared.decision.Decision.TheVariants.{Refuse}
use Rattle.rfq_room.specs.declared.refusal.Cause.TheVariants as cause
use Rattle.rfq_handler.specs.Known.{are_known}
use Rattle.rfq_handler.specs.Responded.{IsAnswerTo, IsResponseEmitted}
use Rattle.venue_rules.specs.Market.{market_of}
use Rattle.venue_request.specs.Senders.{sender}
use Rattle.rfq_handler.proofs.Rooms.{quiet-known, quiet-listed, quiet-made}
use Rattle.rfq_handler.proofs.Responding.{accepted-answer, if-both, planned-quote-there, planned-room-there, planned-trades, response-answer, response-holds, response-known}
use Rattle.rfq_handler.proofs.Refused.{of-response}
use Rattle.rfq_handler.proofs.responses.plan_response.Goals as goal

pub accepted-requires-clause-listed : goal.accepted-requires-clause-listed
accepted-requires-clause-listed c = ap (are_listed (length c.args.request.now.turn.market.instruments.now)) c.plan_answer.ensures.kept ∙ c.requires.listed

pub accepted-requires-clause-quote : goal.accepted-requires-clause-quote
accepted-requires-clause-quote c =
    subst (λ fs. IsAnswerTo fs c.args.response.now.quote_id c.in-Ok.plan.facts) (sym c.plan_answer.ensures.kept)
    (planned-quote-there c.args.rooms.now.facts c.args.request.now.taken.now.from c.args.response.now c.args.request.now.turn.moment (decide c.args.rooms.now.facts c.args.request.now.taken.now.from c.args.response.now c.args.request.now.turn.moment) c.in-Ok.plan c.in-Ok.ensures.planned)

pub accepted-requires-clause-room : goal.accepted-requires-clause-room
accepted-requires-clause-room c =
    subst (λ fs. IsSome (quote_room fs c.args.response.now.quote_id)) (sym c.plan_answer.ensures.kept)
    (planned-room-there c.args.rooms.now.facts c.args.request.now.taken.now.from c.args.response.now c.args.request.now.turn.moment (decide c.args.rooms.now.facts c.args.request.now.taken.now.from c.args.response.now c.args.request.now.turn.moment) c.in-Ok.plan c.in-Ok.ensures.planned)

pub accepted-requires-clause-trade : goal.accepted-requires-clause-trade
accepted-requires-clause-trade c = planned-trades c.args.rooms.now.facts c.args.request.now.taken.now.from c.args.response.now c.args.request.now.turn.moment (decide c.args.rooms.now.facts c.args.request.now.taken.now.from c.args.response.now c.args.request.now.turn.moment) c.in-Ok.plan c.in-Ok.ensures.planned

pub returns-in-Ok-clause-planned : goal.returns-in-Ok-clause-planned
returns-in-Ok-clause-planned c =
    let s : Sender = sender c.args.request.now.taken.now in
    IfOk-weaker c.accepted.result _ _ (λ a e. λ h k reported before.
    accepted-answer c.rooms_decide.ensures.response (market_of c.args.request.now.turn.market) h s c.args.response.now c.args.request.now.turn.moment c.args.rooms.now.facts c.args.request.now.turn.counts.reports c.args.request.now.turn.counts.trades c.in-Ok.plan a k reported before c.in-Ok.ensures.planned e.0
    (subst (λ fs. IsResponseEmitted c.args.request.now.turn.market.instruments.now fs c.args.request.now.turn.counts.reports c.args.request.now.turn.counts.trades s c.args.response.now c.in-Ok.plan.hit a.replies) c.plan_answer.ensures.kept e.1)) (if-both c.accepted.result _ _ c.accepted.ensures.facts c.accepted.ensures.emitted)

pub returns-in-Ok-clause-made : goal.returns-in-Ok-clause-made
returns-in-Ok-clause-made c = IfOk-weaker c.accepted.result _ _ (λ a e. subst (IsPlanOf c.plan_answer.new.self) (sym e) c.in-Ok.ensures.made) c.accepted.ensures.facts

pub returns-in-Ok-clause-listed : goal.returns-in-Ok-clause-listed
returns-in-Ok-clause-listed c = IfOk-weaker c.accepted.result _ _ (λ a e. λ count. ap (are_listed count) e ∙ c.in-Ok.ensures.listed count) c.accepted.ensures.facts

pub returns-in-Ok-clause-known : goal.returns-in-Ok-clause-known
returns-in-Ok-clause-known c =
    IfOk-weaker c.accepted.result _ _ (λ a e. λ count. ap (are_known count) e ∙ response-known c.args.rooms.now.facts c.args.request.now.taken.now.from c.args.response.now c.args.request.now.turn.moment (decide c.args.rooms.now.facts c.args.request.now.taken.now.from c.args.response.now c.args.request.now.turn.moment) c.in-Ok.plan count c.in-Ok.ensures.planned) c.accepted.ensures.facts

pub refused-requires : goal.refused-requires
refused-requires c = ap (are_listed (length c.args.request.now.turn.market.instruments.now)) c.plan_answer.ensures.kept ∙ c.requires.listed

pub returns-in-Some-clause-planned : goal.returns-in-Some-clause-planned
returns-in-Some-clause-planned c =
    let is : cause_of c.in-Err.refusal ≡ Some (cause.Response c.in-Some.cause) = sym c.cause.ensures.value ∙ c.of_response.ensures ∙ ap (option_map (λ x. cause.Response x)) c.in-Some.is in
    let holds = response-holds (decide c.args.rooms.now.facts c.args.request.now.taken.now.from c.args.response.now c.args.request.now.turn.moment) c.in-Err.refusal c.in-Some.cause c.in-Err.ensures.refused is in
    let id = c.args.response.now.quote_id in
    IfOk-weaker c.refused.result _ _ (λ a e. λ h k reported before. e
    ∙ response-answer c.rooms_decide.ensures.response (market_of c.args.request.now.turn.market) h (sender c.args.request.now.taken.now) c.args.response.now c.args.request.now.turn.moment c.args.rooms.now.facts (find_quote c.args.rooms.now.facts id) (quote_room c.plan_answer.new.self.facts id) (Refuse c.in-Some.cause) k refl (ap (λ fs. quote_room fs id) (sym c.plan_answer.ensures.kept)) holds) c.refused.ensures.emitted

pub returns-in-Some-clause-made : goal.returns-in-Some-clause-made
returns-in-Some-clause-made c = IfOk-weaker c.refused.result _ _ (λ a e. quiet-made c.plan_answer.new.self a.facts e) c.refused.ensures.quiet

pub returns-in-Some-clause-listed : goal.returns-in-Some-clause-listed
returns-in-Some-clause-listed c = IfOk-weaker c.refused.result _ _ (λ a e. λ count. quiet-listed count a.facts e) c.refused.ensures.quiet

pub returns-in-Some-clause-known : goal.returns-in-Some-clause-known
returns-in-Some-clause-known c = IfOk-weaker c.refused.result _ _ (λ a e. λ count. quiet-known count a.facts e) c.refused.ensures.quiet

pub of_response-requires : goal.of_response-requires
of_response-requires c = of-response _ c.in-Err.refusal c.cause.result c.cause.ensures.value c.in-Err.ensures.refused
