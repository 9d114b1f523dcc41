use Rattle.std.proofs.Common.{◌≡◌, ◌∙◌, ap, sym, subst, length, Some, option_map}
use Rattle.std.proofs.lemmas.Result.{IfOk-weaker}
use Rattle.venue_rules.specs.Answer.{Sender}
use Rattle.venue_rules.specs.Market.{Market, market_of}
use Rattle.venue_rules.specs.Rooms.{find_room}
use Rattle.rfq_room.specs.Causes.{quote_cause}
use Rattle.rfq_room.specs.RoomStore.{are_listed}
use Rattle.rfq_room.specs.Plans.{IsQuotePlanned}
use Rattle.rfq_room.specs.Refusals.{cause_of}
use Rattle.rfq_room.specs.Steps.{IsPlanOf}
use Rattle.rfq_room.specs.declared.refusal.Cause.TheVariants as cause
use Rattle.rfq_handler.specs.Known.{are_known}
use Rattle.rfq_handler.specs.Quoted.{IsQuoteAnswer}
use Rattle.venue_request.specs.Senders.{sender}
use Rattle.rfq_handler.proofs.Makers.{quote-known, quote-listed, sender-known}
use Rattle.rfq_handler.proofs.Rooms.{quiet-known, quiet-listed, quiet-made}
use Rattle.rfq_handler.proofs.Quoting.{accepted-answer, quote-answer, quote-holds}
use Rattle.rfq_handler.proofs.Refused.{of-quote}
use Rattle.rfq_handler.proofs.quotes.plan_quote.Goals as goal

pub accepted-requires-clause-listed : goal.accepted-requires-clause-listed
accepted-requires-clause-listed c = ap (are_listed (length c.args.request.now.turn.market.instruments.now)) c.plan_quote.ensures.kept ∙ c.requires.listed

pub accepted-requires-clause-known : goal.accepted-requires-clause-known
accepted-requires-clause-known c =
    sender-known (market_of c.args.request.now.turn.market) c.args.rooms.now.facts c.args.request.now.taken.now.from c.args.quote.now c.args.request.now.turn.moment c.in-Ok.plan c.requires.known c.in-Ok.ensures.free c.in-Ok.ensures.planned

pub accepted-requires-clause-planned : goal.accepted-requires-clause-planned
accepted-requires-clause-planned c = subst (λ fs. IsQuotePlanned fs c.args.request.now.taken.now.from c.args.quote.now c.in-Ok.plan) (sym c.plan_quote.ensures.kept) c.in-Ok.ensures.planned

pub returns-in-Ok-clause-planned : goal.returns-in-Ok-clause-planned
returns-in-Ok-clause-planned c =
    let m : Market = market_of c.args.request.now.turn.market in
    let s : Sender = sender c.args.request.now.taken.now in
    IfOk-weaker c.accepted.result _ _ (λ a e. λ h k b.
    accepted-answer c.rooms_decide.ensures.quote c.rooms_decide.ensures.quoted c.rooms_decide.ensures.first c.book_is_read_alone.ensures.picture m h s c.args.quote.now c.args.request.now.turn.moment c.args.rooms.now.facts c.args.book.now.facts a k b c.in-Ok.ensures.free
    (subst (λ fs. IsQuoteAnswer c.args.request.now.turn.market.participants.now c.args.request.now.turn.market.instruments.now fs c.args.book.now.facts s c.args.quote.now a) c.plan_quote.ensures.kept e)) c.accepted.ensures.emitted

pub returns-in-Ok-clause-made : goal.returns-in-Ok-clause-made
returns-in-Ok-clause-made c = IfOk-weaker c.accepted.result _ _ (λ a e. subst (IsPlanOf c.plan_quote.new.self) (sym e) c.in-Ok.ensures.made) c.accepted.ensures.facts

pub returns-in-Ok-clause-listed : goal.returns-in-Ok-clause-listed
returns-in-Ok-clause-listed c = IfOk-weaker c.accepted.result _ _ (λ a e. λ count. ap (are_listed count) e ∙ quote-listed c.args.rooms.now.facts c.args.request.now.taken.now.from c.args.quote.now c.in-Ok.plan count c.in-Ok.ensures.planned) c.accepted.ensures.facts

pub returns-in-Ok-clause-known : goal.returns-in-Ok-clause-known
returns-in-Ok-clause-known c = IfOk-weaker c.accepted.result _ _ (λ a e. λ count. ap (are_known count) e ∙ quote-known c.args.rooms.now.facts c.args.request.now.taken.now.from c.args.quote.now c.in-Ok.plan count c.in-Ok.ensures.planned) c.accepted.ensures.facts

pub refused-requires : goal.refused-requires
refused-requires c = ap (are_listed (length c.args.request.now.turn.market.instruments.now)) c.plan_quote.ensures.kept ∙ c.requires.listed

pub returns-in-Some-clause-planned : goal.returns-in-Some-clause-planned
returns-in-Some-clause-planned c =
    let m : Market = market_of c.args.request.now.turn.market in
    let is : cause_of c.in-Err.refusal ≡ Some (cause.Quote c.in-Some.cause) = sym c.cause.ensures.value ∙ c.of_quote.ensures ∙ ap (option_map (λ x. cause.Quote x)) c.in-Some.is in
    let holds = quote-holds (quote_cause m c.args.rooms.now.facts c.args.request.now.taken.now.from c.args.quote.now c.args.request.now.turn.moment) c.in-Err.refusal c.in-Some.cause c.in-Err.ensures.refused is in
    IfOk-weaker c.refused.result _ _ (λ a e. λ h k b. e ∙ quote-answer c.rooms_decide.ensures.quote m h (sender c.args.request.now.taken.now) c.args.quote.now c.args.request.now.turn.moment c.args.rooms.now.facts (find_room c.plan_quote.new.self.facts c.args.quote.now.request_id) (Some c.in-Some.cause) k (ap (λ fs. find_room fs c.args.quote.now.request_id) (sym c.plan_quote.ensures.kept)) holds) c.refused.ensures.emitted

pub returns-in-Some-clause-made : goal.returns-in-Some-clause-made
returns-in-Some-clause-made c = IfOk-weaker c.refused.result _ _ (λ a e. quiet-made c.plan_quote.new.self a.facts e) c.refused.ensures.quiet

pub returns-in-Some-clause-listed : goal.returns-in-Some-clause-listed
returns-in-Some-clause-listed c = IfOk-weaker c.refused.result _ _ (λ a e. λ count. quiet-listed count a.facts e) c.refused.ensures.quiet

pub returns-in-Some-clause-known : goal.returns-in-Some-clause-known
returns-in-Some-clause-known c = IfOk-weaker c.refused.result _ _ (λ a e. λ count. quiet-known count a.facts e) c.refused.ensures.quiet

pub of_quote-requires : goal.of_quote-requires
of_quote-requires c = of-quote _ c.in-Err.refusal c.cause.result c.cause.ensures.value c.in-Err.ensures.refused
