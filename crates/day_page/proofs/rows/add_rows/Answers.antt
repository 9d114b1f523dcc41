use Rattle.std.proofs.Common.{All, ◌∷◌, [], ◌∙◌, List, subst, sym}
use Rattle.std.proofs.lemmas.Result.{on_ok_weaker}
use Rattle.page_text.specs.Parts.{with_part}
use Rattle.venue_core.specs.Replay.{IsItem}
use Rattle.venue_rules.specs.declared.trail.TrailRow.{TrailRow}
use Rattle.day_page.specs.declared.template.TheConstants.{ROWS}
use Rattle.day_page.proofs.RowByRow.{all_listed, rows_added}
use Rattle.day_page.proofs.rows.add_rows.Goals as goal

pub add_each-requires : goal.add_each-requires
add_each-requires c = record { kept = subst (λ (rs : List TrailRow). All IsItem rs) (sym c.listed.ensures) (all_listed c.args.rows.now c.requires.kept) }

pub returns : goal.returns
returns c =
    on_ok_weaker c.add-2.result
    (rows_added c.args.participants.now c.args.rows.now c.listed.result.now c.closing.result.now c.args.page.now c.add.new.self c.add_each.new.page c.add-2.new.self
    c.listed.ensures c.closing.ensures (c.in_ok-add.ensures.added ∙ (λ j. with_part c.args.page.now (record { template = ROWS.now; values = (c.deref.ensures.value ∙ c.in_ok-count.ensures) j ∷ [] })))
    c.in_ok-add_each.ensures)
    c.add-2.ensures.added
