use Rattle.surveillance.proofs.Showing.{quoted_on}
use Rattle.surveillance.proofs.shown.first_quotes.Goals as goal

pub loop-event-preserved : goal.loop-event-preserved
loop-event-preserved c = λ id.
    quoted_on c.args.events.now c.loop-event.event-index c.event-item.result id c.loop-event.rows.entries c.put_quoted.new.rows.entries c.loop-event-test.true c.event-item.is (c.loop-event.invariant id) c.in_ok-put_quoted.ensures
