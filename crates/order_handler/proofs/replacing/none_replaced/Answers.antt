use Rattle.std.proofs.Common.{◌∙◌, sym}
use Rattle.std.proofs.lemmas.Result.{IfOk-weaker}
use Rattle.venue_request.specs.Senders.{sender}
use Rattle.order_handler.proofs.Replacements.{held-again, held-kept, replace-unknown}
use Rattle.order_handler.proofs.replacing.none_replaced.Goals as goal

pub returns-then-not-holds-clause-planned : goal.returns-then-not-holds-clause-planned
returns-then-not-holds-clause-planned c =
    IfOk-weaker c.refused.result _ _ (λ a e. λ m h counts t x. e ∙ sym (replace-unknown m h c.args.book.now.facts c.args.held.now.facts counts (sender c.args.request.now.taken.now) c.args.message.now t (c.parts_are_read_alone.ensures h c.args.book.now.facts c.args.held.now.facts counts x) c.requires.unknown (sym c.holds.ensures ∙ c.if-not-holds.true))) c.refused.ensures.answer

pub returns-then-is_used-clause-planned : goal.returns-then-is_used-clause-planned
returns-then-is_used-clause-planned c =
    IfOk-weaker c.refused-then-is_used.result _ _ (λ a e. λ m h counts t x. e ∙ sym (held-again m h c.args.book.now.facts c.args.held.now.facts counts (sender c.args.request.now.taken.now) c.args.message.now t (c.parts_are_read_alone.ensures h c.args.book.now.facts c.args.held.now.facts counts x) c.requires.unknown (sym c.holds.ensures ∙ c.if-not-holds.false) (sym c.is_used.ensures ∙ c.if-is_used.true))) c.refused-then-is_used.ensures.answer

pub returns-clause-planned : goal.returns-clause-planned
returns-clause-planned c =
    IfOk-weaker c.refused-2.result _ _ (λ a e. λ m h counts t x. e ∙ sym (held-kept m h c.args.book.now.facts c.args.held.now.facts counts (sender c.args.request.now.taken.now) c.args.message.now t (c.parts_are_read_alone.ensures h c.args.book.now.facts c.args.held.now.facts counts x) c.requires.unknown (sym c.holds.ensures ∙ c.if-not-holds.false) (sym c.is_used.ensures ∙ c.if-is_used.false))) c.refused-2.ensures.answer
