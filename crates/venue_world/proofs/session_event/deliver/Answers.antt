use Rattle.std.proofs.Common.{sym, ◌∙◌}
use Rattle.venue_world.proofs.Slots.{delivered_by, delivered_not, is_empty, is_full}
use Rattle.venue_world.proofs.session_event.deliver.Goals as goal

pub returns-then-has_reply : goal.returns-then-has_reply
returns-then-has_reply g c = (let x = is_full c.args.slot.now.reply (sym c.has_reply.ensures ∙ c.if-has_reply.true) in delivered_not c.args.place c.args.engine.now c.args.slot.now x.0 c.requires x.1)

pub returns : goal.returns
returns g c = delivered_by c.args.place c.args.engine.now c.take_front.new.self c.args.slot.now c.take_front.result (is_empty c.args.slot.now.reply (sym c.has_reply.ensures ∙ c.if-has_reply.false)) c.take_front.ensures.front
