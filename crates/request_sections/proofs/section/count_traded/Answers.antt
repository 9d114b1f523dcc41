use Rattle.std.proofs.Common.{◌≡◌, ◌+◌, ◌∙◌, ℕ, Bool, arith, ap, cond, sym}
use Rattle.std.specs.List.{sum_by}
use Rattle.day_events.specs.declared.event.Event.{Event}
use Rattle.day_tables.proofs.Walks.{sums_on, sums_out}
use Rattle.request_sections.specs.Requests.{has_trade}
use Rattle.request_sections.proofs.section.count_traded.Goals as goal

pub loop-room-preserved : goal.loop-room-preserved
loop-room-preserved c = (
  sums_on (λ (e : Event). cond (has_trade c.args.day.now.events.now e.what) 1 0) c.args.rooms.now c.loop-room.room-index c.room-item.result c.loop-room.count _ (sum_by (λ (e : Event). cond (has_trade c.args.day.now.events.now e.what) 1 0) c.args.rooms.now) c.loop-room-test.true c.room-item.is
      (ap (λ (n : ℕ). c.loop-room.count + n) (c.one_if-count.ensures.result ∙ ap (λ (b : Bool). cond b 1 0) c.has_trade.ensures)) c.loop-room.invariant.0,
  omega (arith, c.loop-room.invariant.1, c.one_if-count.ensures.few),
)

pub returns : goal.returns
returns c = sums_out (λ (e : Event). cond (has_trade c.args.day.now.events.now e.what) 1 0) c.args.rooms.now c.loop-room.room-index c.loop-room.count (sum_by (λ (e : Event). cond (has_trade c.args.day.now.events.now e.what) 1 0) c.args.rooms.now) c.loop-room-test.false c.loop-room.invariant.0
