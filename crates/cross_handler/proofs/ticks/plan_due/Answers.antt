use Rattle.std.proofs.Common.{◌∙◌, sym, ap, false, [], option_map}
use Rattle.order_handler.specs.Parts.{Parts}
use Rattle.cross_handler.proofs.EnteringWhenDue.{quiet-tick, tick-answers}
use Rattle.cross_handler.proofs.ticks.plan_due.Goals as goal

pub returns-in_default-clause-planned : goal.returns-in_default-clause-planned
returns-in_default-clause-planned c = λ h read.
    quiet-tick c.args.turn.now.market.participants.now c.args.turn.now.market.instruments.now c.args.book.now.facts c.args.held.now.facts c.args.turn.now.counts h c.args.turn.now.moment c.of_replies.result (c.parts_are_read_alone.ensures h c.args.book.now.facts c.args.held.now.facts c.args.turn.now.counts read)
    (sym (ap (option_map (λ k. k.now)) c.in_default.is) ∙ c.due.ensures)
    (c.of_replies.ensures ∙ ap (λ rs. let b : Parts = record { delay_first = false; delay = []; book = []; replies = rs } in b) c.new.ensures.items)

pub returns-clause-planned : goal.returns-clause-planned
returns-clause-planned c = λ h read.
    tick-answers c.args.turn.now.market.participants.now c.args.turn.now.market.instruments.now c.args.book.now.facts c.args.held.now.facts c.args.turn.now.counts h c.args.turn.now.moment c.in-Some.side.now c.in_ok-entered.entered c.with_delay.result c.in_ok-plan.plan.facts (c.parts_are_read_alone.ensures h c.args.book.now.facts c.args.held.now.facts c.args.turn.now.counts read)
    (sym (ap (option_map (λ k. k.now)) c.in-Some.is) ∙ c.due.ensures)
    (c.in_ok-entered.ensures.answer h c.args.held.now.facts read)
    (ap (λ p. p.facts) c.in_ok-plan.ensures.planned)
    c.with_delay.ensures
