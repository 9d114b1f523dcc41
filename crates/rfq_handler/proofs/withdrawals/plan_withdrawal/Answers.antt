use Rattle.std.proofs.Common.{◌≡◌, ◌∙◌, ap, sym, flat_map, Some, None, List, option_map}
use Rattle.std.proofs.lemmas.Result.{IfOk-weaker}
use Rattle.venue_rules.specs.declared.facts.RoomQuote.{RoomQuote}
use Rattle.venue_rules.specs.Answer.{Answer, Sender}
use Rattle.venue_rules.specs.Market.{Market, market_of}
use Rattle.rfq_room.specs.Causes.{withdrawal_cause, withdrawal_id}
use Rattle.rfq_room.specs.RoomStore.{are_listed}
use Rattle.rfq_room.specs.Named.{named_quotes}
use Rattle.rfq_room.specs.Plan.{Plan}
use Rattle.rfq_room.specs.Refusals.{cause_of}
use Rattle.rfq_room.specs.declared.refusal.Cause.TheVariants as cause
use Rattle.rfq_handler.specs.Counting.{reports_in, trades_in}
use Rattle.rfq_handler.specs.Known.{are_known}
use Rattle.venue_request.specs.Senders.{sender}
use Rattle.rfq_handler.specs.Sent.{both_emitted}
use Rattle.rfq_handler.proofs.Rooms.{quiet-known, quiet-listed, quiet-made}
use Rattle.rfq_handler.proofs.Withdrawing.{all-quiet, withdrawal-answer, withdrawal-holds, withdrawn-known, withdrawn-untraded, withdraws-all}
use Rattle.rfq_handler.proofs.Refused.{of-withdrawal}
use Rattle.rfq_handler.proofs.withdrawals.plan_withdrawal.Goals as goal

pub of-requires-clause-counted : goal.of-requires-clause-counted
of-requires-clause-counted c = sym (ap reports_in c.in_ok-replies-in-Ok.ensures ∙ all-quiet c.args.request.now.turn.market.instruments.now c.plan_withdraw.new.self.facts c.quotes.result.now)

pub of-requires-clause-traded : goal.of-requires-clause-traded
of-requires-clause-traded c =
    withdrawn-untraded (named_quotes c.args.rooms.now.facts c.args.request.now.taken.now.from c.args.request.now.turn.moment (withdrawal_id c.args.message.now))
    ∙ sym (ap (λ (p : Plan). trades_in p.facts) c.in-Ok.ensures.planned)

pub returns-in_ok-replies-in-Ok-clause-planned : goal.returns-in_ok-replies-in-Ok-clause-planned
returns-in_ok-replies-in-Ok-clause-planned c = λ h e.
    let m : Market = market_of c.args.request.now.turn.market in
    let s : Sender = sender c.args.request.now.taken.now in
    let qs : List RoomQuote = named_quotes c.args.rooms.now.facts c.args.request.now.taken.now.from c.args.request.now.turn.moment (withdrawal_id c.args.message.now) in
    let emitted : c.in_ok-replies-in-Ok.replies.items ≡ flat_map (both_emitted c.args.request.now.turn.market.instruments.now c.args.rooms.now.facts) c.in-Ok.plan.quotes =
    c.in_ok-replies-in-Ok.ensures
    ∙ ap (λ qs. flat_map (both_emitted c.args.request.now.turn.market.instruments.now c.plan_withdraw.new.self.facts) qs) c.quotes.ensures
    ∙ ap (λ fs. flat_map (both_emitted c.args.request.now.turn.market.instruments.now fs) c.in-Ok.plan.quotes) c.in-Ok.ensures.kept in
    withdraws-all c.rooms_decide.ensures.room m h c.args.rooms.now.facts qs c.in-Ok.plan c.in_ok-replies-in-Ok.replies.items c.of.result e c.in-Ok.ensures.planned emitted c.of.ensures
    ∙ withdrawal-answer c.rooms_decide.ensures.withdrawal m h s c.args.message.now c.args.request.now.turn.moment c.args.rooms.now.facts None e c.in-Ok.ensures.free

pub returns-in_ok-replies-in-Ok-clause-listed : goal.returns-in_ok-replies-in-Ok-clause-listed
returns-in_ok-replies-in-Ok-clause-listed c = λ count. ap (λ (a : Answer). are_listed count a.facts) c.of.ensures ∙ c.in-Ok.ensures.listed count

pub returns-in_ok-replies-in-Ok-clause-known : goal.returns-in_ok-replies-in-Ok-clause-known
returns-in_ok-replies-in-Ok-clause-known c = λ count.
    ap (λ (a : Answer). are_known count a.facts) c.of.ensures
    ∙ ap (λ (p : Plan). are_known count p.facts) c.in-Ok.ensures.planned
    ∙ withdrawn-known count (named_quotes c.args.rooms.now.facts c.args.request.now.taken.now.from c.args.request.now.turn.moment (withdrawal_id c.args.message.now))

pub returns-in-Some-clause-planned : goal.returns-in-Some-clause-planned
returns-in-Some-clause-planned c =
    let is : cause_of c.in-Err.refusal ≡ Some (cause.Withdrawal c.in-Some.cause) = sym c.cause.ensures.value ∙ c.of_withdrawal.ensures ∙ ap (option_map (λ x. cause.Withdrawal x)) c.in-Some.is in
    let holds = withdrawal-holds (withdrawal_cause c.args.rooms.now.facts c.args.request.now.taken.now.from c.args.message.now c.args.request.now.turn.moment) c.in-Err.refusal c.in-Some.cause c.in-Err.ensures.refused is in
    let qs : List RoomQuote = named_quotes c.args.rooms.now.facts c.args.request.now.taken.now.from c.args.request.now.turn.moment (withdrawal_id c.args.message.now) in
    IfOk-weaker c.refused.result _ _ (λ a e. λ h k. e (market_of c.args.request.now.turn.market) h qs ∙ withdrawal-answer c.rooms_decide.ensures.withdrawal (market_of c.args.request.now.turn.market) h (sender c.args.request.now.taken.now) c.args.message.now c.args.request.now.turn.moment c.args.rooms.now.facts (Some c.in-Some.cause) k holds) c.refused.ensures.emitted

pub returns-in-Some-clause-made : goal.returns-in-Some-clause-made
returns-in-Some-clause-made c = IfOk-weaker c.refused.result _ _ (λ a e. quiet-made c.plan_withdraw.new.self a.facts e) c.refused.ensures.quiet

pub returns-in-Some-clause-listed : goal.returns-in-Some-clause-listed
returns-in-Some-clause-listed c = IfOk-weaker c.refused.result _ _ (λ a e. λ count. quiet-listed count a.facts e) c.refused.ensures.quiet

pub returns-in-Some-clause-known : goal.returns-in-Some-clause-known
returns-in-Some-clause-known c = IfOk-weaker c.refused.result _ _ (λ a e. λ count. quiet-known count a.facts e) c.refused.ensures.quiet

pub of_withdrawal-requires : goal.of_withdrawal-requires
of_withdrawal-requires c = of-withdrawal _ c.in-Err.refusal c.cause.result c.cause.ensures.value c.in-Err.ensures.refused
