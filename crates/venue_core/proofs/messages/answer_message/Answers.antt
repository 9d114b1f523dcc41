use Rattle.std.proofs.Common.{◌≡◌, ◌∙◌, subst, sym, length}
use Rattle.std.proofs.lemmas.Result.{IfOk-weaker}
use Rattle.venue_rules.specs.Market.{market_of}
use Rattle.venue_request.specs.Senders.{sender}
use Rattle.venue_core.specs.State.{standing}
use Rattle.venue_core.specs.VenueFacts.{IsStanding}
use Rattle.venue_core.proofs.FirstQuotes.{request-adds-none, response-adds-none, withdrawal-adds-none}
use Rattle.venue_core.proofs.Planning.{cancel-answers, cross-answers, none-read, order-answers, prices-answers, quote-answers, replace-answers, request-answers, response-answers, withdrawal-answers}
use Rattle.venue_core.proofs.Unsupported.{IsUnsupported, unsupported-answer}
use Rattle.venue_core.proofs.messages.answer_message.Goals as goal

pub returns-in_ok-plan_order-in-NewOrderSingle-clause-planned : goal.returns-in_ok-plan_order-in-NewOrderSingle-clause-planned
returns-in_ok-plan_order-in-NewOrderSingle-clause-planned c = rw c.of_orders.ensures (λ h s. c.in_ok-plan_order-in-NewOrderSingle.ensures.planned h (c.requires.counted h s) ∙ order-answers (market_of c.args.request.now.turn.market) h c.args.request.now.taken.now c.args.request.now.turn.moment c.in-NewOrderSingle.order (sym c.get.ensures ∙ c.in-NewOrderSingle.is))

pub returns-in_ok-plan_cancel-in-OrderCancelRequest-clause-planned : goal.returns-in_ok-plan_cancel-in-OrderCancelRequest-clause-planned
returns-in_ok-plan_cancel-in-OrderCancelRequest-clause-planned c = rw c.of_orders-in-OrderCancelRequest.ensures (λ h s. c.in_ok-plan_cancel-in-OrderCancelRequest.ensures.planned h (c.requires.counted h s) ∙ cancel-answers (market_of c.args.request.now.turn.market) h c.args.request.now.taken.now c.args.request.now.turn.moment c.in-OrderCancelRequest.message (sym c.get.ensures ∙ c.in-OrderCancelRequest.is))

pub returns-in_ok-plan_replace-in-OrderCancelReplaceRequest-clause-planned : goal.returns-in_ok-plan_replace-in-OrderCancelReplaceRequest-clause-planned
returns-in_ok-plan_replace-in-OrderCancelReplaceRequest-clause-planned c = rw c.of_orders-in-OrderCancelReplaceRequest.ensures (λ h s. c.in_ok-plan_replace-in-OrderCancelReplaceRequest.ensures.planned h (c.requires.counted h s) ∙ replace-answers (market_of c.args.request.now.turn.market) h c.args.request.now.taken.now c.args.request.now.turn.moment c.in-OrderCancelReplaceRequest.message (sym c.get.ensures ∙ c.in-OrderCancelReplaceRequest.is))

pub returns-in_ok-plan_prices-in-MarketDataRequest-clause-planned : goal.returns-in_ok-plan_prices-in-MarketDataRequest-clause-planned
returns-in_ok-plan_prices-in-MarketDataRequest-clause-planned c = rw c.of_orders-in-MarketDataRequest.ensures (λ h s. c.in_ok-plan_prices-in-MarketDataRequest.ensures.planned h s.book ∙ prices-answers (market_of c.args.request.now.turn.market) h c.args.request.now.taken.now c.args.request.now.turn.moment c.in-MarketDataRequest.message (sym c.get.ensures ∙ c.in-MarketDataRequest.is))

pub returns-in_ok-plan_cross-in-NewOrderCross-clause-planned : goal.returns-in_ok-plan_cross-in-NewOrderCross-clause-planned
returns-in_ok-plan_cross-in-NewOrderCross-clause-planned c = rw c.of_orders-in-NewOrderCross.ensures (λ h s. c.in_ok-plan_cross-in-NewOrderCross.ensures.planned h (c.requires.counted h s) ∙ cross-answers (market_of c.args.request.now.turn.market) h c.args.request.now.taken.now c.args.request.now.turn.moment c.in-NewOrderCross.cross (sym c.get.ensures ∙ c.in-NewOrderCross.is))

pub returns-in_ok-plan_request-in-QuoteRequest-clause-planned : goal.returns-in_ok-plan_request-in-QuoteRequest-clause-planned
returns-in_ok-plan_request-in-QuoteRequest-clause-planned c = rw c.of_rooms.ensures (λ h s. c.in_ok-plan_request-in-QuoteRequest.ensures.planned h s.rooms ∙ request-answers (market_of c.args.request.now.turn.market) h c.args.request.now.taken.now c.args.request.now.turn.moment c.in-QuoteRequest.message (sym c.get.ensures ∙ c.in-QuoteRequest.is))

pub returns-in_ok-plan_request-in-QuoteRequest-clause-fit : goal.returns-in_ok-plan_request-in-QuoteRequest-clause-fit
returns-in_ok-plan_request-in-QuoteRequest-clause-fit c = rw c.of_rooms.ensures (record {
  plan = c.in_ok-plan_request-in-QuoteRequest.ensures.made;
  listed = c.in_ok-plan_request-in-QuoteRequest.ensures.listed;
  known = c.in_ok-plan_request-in-QuoteRequest.ensures.known;
  read = none-read _ c.in_ok-plan_request-in-QuoteRequest.field-0.facts (λ h s. request-adds-none c.rooms_decide.ensures.request (market_of c.args.request.now.turn.market) h (sender c.args.request.now.taken.now) c.in-QuoteRequest.message c.args.request.now.turn.moment c.in_ok-plan_request-in-QuoteRequest.field-0 (c.in_ok-plan_request-in-QuoteRequest.ensures.planned h (s.rooms ∙ c.plan_request.ensures.kept)));
})

pub returns-in_ok-plan_withdrawal-in-QuoteCancel-clause-planned : goal.returns-in_ok-plan_withdrawal-in-QuoteCancel-clause-planned
returns-in_ok-plan_withdrawal-in-QuoteCancel-clause-planned c = rw c.of_rooms-in-QuoteCancel.ensures (λ h s. c.in_ok-plan_withdrawal-in-QuoteCancel.ensures.planned h s.rooms ∙ withdrawal-answers (market_of c.args.request.now.turn.market) h c.args.request.now.taken.now c.args.request.now.turn.moment c.in-QuoteCancel.message (sym c.get.ensures ∙ c.in-QuoteCancel.is))

pub returns-in_ok-plan_withdrawal-in-QuoteCancel-clause-fit : goal.returns-in_ok-plan_withdrawal-in-QuoteCancel-clause-fit
returns-in_ok-plan_withdrawal-in-QuoteCancel-clause-fit c = rw c.of_rooms-in-QuoteCancel.ensures (record {
  plan = c.in_ok-plan_withdrawal-in-QuoteCancel.ensures.made;
  listed = c.in_ok-plan_withdrawal-in-QuoteCancel.ensures.listed (length c.args.request.now.turn.market.instruments.now);
  known = c.in_ok-plan_withdrawal-in-QuoteCancel.ensures.known (length c.args.request.now.turn.market.participants.now.names);
  read = none-read _ c.in_ok-plan_withdrawal-in-QuoteCancel.field-0.facts (λ h s. withdrawal-adds-none c.rooms_decide.ensures.withdrawal (market_of c.args.request.now.turn.market) h (sender c.args.request.now.taken.now) c.in-QuoteCancel.message c.args.request.now.turn.moment c.in_ok-plan_withdrawal-in-QuoteCancel.field-0 (c.in_ok-plan_withdrawal-in-QuoteCancel.ensures.planned h (s.rooms ∙ c.plan_withdrawal.ensures.kept)));
})

pub returns-in_ok-plan_response-in-QuoteResponse-clause-planned : goal.returns-in_ok-plan_response-in-QuoteResponse-clause-planned
returns-in_ok-plan_response-in-QuoteResponse-clause-planned c = rw c.of_rooms-in-QuoteResponse.ensures (λ h s. c.in_ok-plan_response-in-QuoteResponse.ensures.planned h s.rooms (c.requires.counted h s).of_reports (c.requires.counted h s).of_trades ∙ response-answers (market_of c.args.request.now.turn.market) h c.args.request.now.taken.now c.args.request.now.turn.moment c.in-QuoteResponse.response (sym c.get.ensures ∙ c.in-QuoteResponse.is))

pub returns-in_ok-plan_response-in-QuoteResponse-clause-fit : goal.returns-in_ok-plan_response-in-QuoteResponse-clause-fit
returns-in_ok-plan_response-in-QuoteResponse-clause-fit c = rw c.of_rooms-in-QuoteResponse.ensures (record {
  plan = c.in_ok-plan_response-in-QuoteResponse.ensures.made;
  listed = c.in_ok-plan_response-in-QuoteResponse.ensures.listed (length c.args.request.now.turn.market.instruments.now);
  known = c.in_ok-plan_response-in-QuoteResponse.ensures.known (length c.args.request.now.turn.market.participants.now.names);
  read = none-read _ c.in_ok-plan_response-in-QuoteResponse.field-0.facts (λ h s.
      let before : IsStanding (standing c.args.day.now) h = record { book = s.book; rooms = s.rooms ∙ c.plan_response.ensures.kept; delay = s.delay; reports = s.reports; trades = s.trades; quoted = s.quoted } in
      let counted = c.requires.counted h before in
      response-adds-none c.rooms_decide.ensures.response (market_of c.args.request.now.turn.market) h (sender c.args.request.now.taken.now) c.in-QuoteResponse.response c.args.request.now.turn.moment c.in_ok-plan_response-in-QuoteResponse.field-0 (c.in_ok-plan_response-in-QuoteResponse.ensures.planned h before.rooms counted.of_reports counted.of_trades));
})

pub returns-in-Quote-clause-planned : goal.returns-in-Quote-clause-planned
returns-in-Quote-clause-planned c = IfOk-weaker c.plan_quote.result _ _ (λ p e h s. e h s ∙ quote-answers (market_of c.args.request.now.turn.market) h c.args.request.now.taken.now c.args.request.now.turn.moment c.in-Quote.quote (sym c.get.ensures ∙ c.in-Quote.is)) c.plan_quote.ensures.planned

pub returns-in-BusinessMessageReject-clause-planned : goal.returns-in-BusinessMessageReject-clause-planned
returns-in-BusinessMessageReject-clause-planned c = rw (sym c.get.ensures ∙ c.in-BusinessMessageReject.is) (λ h s. c.plan_nothing.ensures.planned (standing c.args.day.now) h s)

pub returns-in-BusinessMessageReject-clause-fit : goal.returns-in-BusinessMessageReject-clause-fit
returns-in-BusinessMessageReject-clause-fit c = c.plan_nothing.ensures.fit (market_of c.args.request.now.turn.market) c.args.day.now

pub returns-in-QuoteStatusReport-clause-planned : goal.returns-in-QuoteStatusReport-clause-planned
returns-in-QuoteStatusReport-clause-planned c = IfOk-weaker c.plan_unsupported.result _ _ (λ p e h s. e (standing c.args.day.now) h s ∙ unsupported-answer (market_of c.args.request.now.turn.market) h c.args.request.now.taken.now c.args.request.now.turn.moment (subst IsUnsupported c.get.ensures c.in-QuoteStatusReport.is)) c.plan_unsupported.ensures.planned
