use Rattle.std.proofs.Common.{◌∙◌}
use Rattle.page_text.specs.Parts.{with_parts}
use Rattle.trail_digest.specs.Trail.{trail_of}
use Rattle.day_page.specs.Sections.{answered_parts, found_of, said_of, tables_parts}
use Rattle.day_page.proofs.Pages.{page_is}
use Rattle.day_page.proofs.printing.page_made.Goals as goal

pub returns : goal.returns
returns c = λ h is items emitted.
    let day = c.args.day.now in
    let m = day.venue.market in
    let d = said_of day in
    let t = trail_of c.args.trail.now in
    page_is m t h items d (found_of c.in_ok-found.found) c.participants-participants.result.now c.instruments-instruments.result.now
    c.new-page.result c.add_head.new.page c.add_tables.new.page c.add_answered.new.page c.add_watched.new.page c.add_rows.new.page c.add.new.self
    (c.in_ok-found.ensures h is) c.participants-participants.ensures c.instruments-instruments.ensures c.new-page.ensures c.in_ok-add_head.ensures
    (c.in_ok-add_tables.ensures h is ∙ (λ j. with_parts c.add_head.new.page (tables_parts m t.rows h d (c.deref.ensures.value j))))
    (c.in_ok-add_answered.ensures h is ∙ (λ j. with_parts c.add_tables.new.page (answered_parts m t.rows h d (c.deref-2.ensures.value j))))
    (c.in_ok-add_watched.ensures items emitted)
    c.in_ok-add_rows.ensures c.in_ok-add.ensures.added
