use Rattle.std.proofs.Common.{◌∷◌, [], ◌∙◌, ap, decimal}
use Rattle.std.proofs.lemmas.Result.{on_ok_weaker}
use Rattle.page_text.specs.Parts.{with_part}
use Rattle.sef_moment.specs.Utc.{utc_text}
use Rattle.venue_rules.specs.declared.trail.TrailRow.{TrailRow}
use Rattle.day_page.proofs.folds.add_fold.Goals as goal

pub returns : goal.returns
returns c =
    let to = c.in_ok-to.ensures ∙ ap (λ (l : TrailRow). decimal l.n) c.last_of_fold-last.ensures in
    on_ok_weaker c.add.result
    (λ e. e ∙ (λ j. with_part c.args.page.now (record {
      template = c.args.template.now;
      values = (c.deref.ensures.value ∙ c.in_ok-from.ensures) j ∷ (c.deref-2.ensures.value ∙ to) j ∷ c.print_utc-begin.ensures j ∷ (c.print_utc-end.ensures ∙ ap (λ (l : TrailRow). utc_text l.moment) c.last_of_fold-last.ensures) j
          ∷ (c.deref-3.ensures.value ∙ c.in_ok-from.ensures) j ∷ (c.deref-4.ensures.value ∙ to) j ∷ [];
    })))
    c.add.ensures.added
