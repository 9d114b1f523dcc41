use Rattle.std.proofs.Common.{ℕ, ◌∷◌, [], ◌∙◌, ◌/◌, ◌%◌, ap}
use Rattle.std.proofs.lemmas.Result.{on_ok_weaker}
use Rattle.std.specs.Prelude.{decimal}
use Rattle.page_text.specs.Parts.{with_part}
use Rattle.chart_axes.specs.declared.template.TheConstants.{TIME_TICK}
use Rattle.chart_axes.proofs.ticks.add_time.Goals as goal

pub returns : goal.returns
returns c =
    on_ok_weaker c.add.result
    (λ e. e ∙ (λ j. with_part c.args.page.now (record {
      template = TIME_TICK.now;
      values = (c.deref.ensures.value ∙ (c.in_ok-whole.ensures ∙ ap (λ (x : ℕ). decimal (x / 100)) c.across-x.ensures)) j
          ∷ (c.deref-2.ensures.value ∙ (c.in_ok-tenth.ensures ∙ ap (λ (x : ℕ). decimal (x / 10 % 10)) c.across-x.ensures)) j
          ∷ (c.deref-3.ensures.value ∙ (c.in_ok-hundredth.ensures ∙ ap (λ (x : ℕ). decimal (x % 10)) c.across-x.ensures)) j
          ∷ c.args.label.now.anchor.now ∷ c.args.label.now.text.now ∷ [];
    })))
    c.add.ensures.added
