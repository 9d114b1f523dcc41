use Rattle.venue_rules.specs.Readings.{trade_facts}
use Rattle.day_page.specs.Sections.{said_of}
use Rattle.day_page.proofs.Pages.{found_is}
use Rattle.day_page.proofs.printing.found_in.Goals as goal

pub returns : goal.returns
returns c = λ h is.
    let day = c.args.day.now in
    found_is c.findings_of.result day.venue.market (said_of day) c.usual_bounds-bounds.result c.participants-participants.result.now c.instruments-instruments.result.now c.trades.result.now (trade_facts h.facts) c.deref.result.now c.deref-2.result.now
    c.usual_bounds-bounds.ensures c.participants-participants.ensures c.instruments-instruments.ensures (c.trades.ensures h is) c.deref.ensures.value c.deref-2.ensures.value
    c.findings_of.ensures.alarms c.findings_of.ensures.linked c.findings_of.ensures.deeds
