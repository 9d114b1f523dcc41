use Rattle.std.proofs.Common.{◌∙◌, sym}
use Rattle.std.proofs.lemmas.Result.{IfOk-weaker}
use Rattle.venue_request.specs.Senders.{sender}
use Rattle.order_handler.specs.Parts.{answer_of}
use Rattle.order_handler.proofs.Showing.{picture-shown}
use Rattle.order_handler.proofs.prices.plan_prices.Goals as goal

pub returns-in-Ok-clause-planned : goal.returns-in-Ok-clause-planned
returns-in-Ok-clause-planned c = IfOk-weaker c.shown.result _ _ (λ a e. λ h x. picture-shown c.book_is_read_alone.ensures.picture c.args.request.now.turn.market.instruments.now c.args.message.now c.in-Ok.instrument c.args.request.now.turn.market.participants.now h c.args.book.now.facts (sender c.args.request.now.taken.now) (answer_of a) c.in-Ok.ensures.shown x e) c.shown.ensures.answer

pub returns-in-Err-clause-planned : goal.returns-in-Err-clause-planned
returns-in-Err-clause-planned c = IfOk-weaker c.refused.result _ _ (λ a e. λ h x. e ∙ sym (c.in-Err.ensures.refused.answers c.args.request.now.turn.market.participants.now h (sender c.args.request.now.taken.now))) c.refused.ensures.answer
