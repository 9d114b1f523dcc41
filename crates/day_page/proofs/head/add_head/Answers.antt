use Rattle.std.proofs.lemmas.Result.{on_ok_weaker}
use Rattle.trail_digest.specs.Trail.{trail_of}
use Rattle.venue_rules.specs.Market.{Market}
use Rattle.day_tables.specs.Parts.{plain_part}
use Rattle.day_page.specs.declared.style.TheConstants.{STYLE}
use Rattle.day_page.specs.Sections.{head_part, top_part}
use Rattle.day_page.proofs.Pages.{three_parts}
use Rattle.day_page.proofs.head.add_head.Goals as goal

pub returns : goal.returns
returns c =
    let m : Market = record { participants = c.args.participants.now; instruments = c.args.instruments.now } in
    let t = trail_of c.args.trail.now in
    on_ok_weaker c.add_identity.result
    (three_parts c.args.page.now c.add_top.new.page c.add.new.self c.add_identity.new.page (top_part m t) (plain_part STYLE.now) (head_part m t) c.in_ok-add_top.ensures c.in_ok-add.ensures.added)
    c.add_identity.ensures
