use Rattle.std.proofs.lemmas.Result.{IfOk-weaker}
use Rattle.trail_digest.specs.Trail.{trail_of}
use Rattle.venue_rules.specs.Market.{Market}
use Rattle.day_page.specs.Sections.{said_of}
use Rattle.day_page.proofs.Pages.{day_is}
use Rattle.day_page.proofs.printing.page_of_day.Goals as goal

pub returns : goal.returns
returns c =
    let m : Market = record { participants = c.args.participants; instruments = c.args.instruments } in
    let day = c.in_ok-day.day in
    let are = c.in_ok-day.ensures in
    IfOk-weaker c.page_made.result _ _ (λ page. day_is c.rows_have_their_inputs.ensures m (trail_of c.args.trail.now) day.venue (said_of day) page are) (c.page_made.ensures _ are.events.stands.history are.events.items are.events.emitted)
