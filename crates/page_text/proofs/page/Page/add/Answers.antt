use Rattle.std.proofs.Common.{sym, ap, ◌∙◌}
use Rattle.page_text.specs.declared.spot.Spot.{Spot}
use Rattle.page_text.specs.declared.spot.Spot.TheVariants.{Text}
use Rattle.page_text.specs.declared.spot.Reading.TheVariants.{Own}
use Rattle.page_text.specs.Parts.{filled}
use Rattle.page_text.specs.Spots.{after}
use Rattle.page_text.specs.Texts.{texts}
use Rattle.page_text.proofs.Scanning.{after-append}
use Rattle.page_text.proofs.page.Page.add.Goals as goal

-- the part begins where the page ended
pub invariant_of-self : goal.invariant_of-self
invariant_of-self c =
    let part = filled (Own c.self.inside.spot) c.args.template.now (texts c.args.values.now) in
    let old = c.self.inside.text.items in
    c.in-Ok.ensures.spot ∙ (ap (λ (s : Spot). after s part) c.self.invariant ∙ (sym (after-append Text old part) ∙ ap (after Text) (sym c.in-Ok.ensures.filled)))
