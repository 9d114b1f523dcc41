use Rattle.std.proofs.Common.{ℕ, Bool, ◌∷◌, [], ◌∙◌, ◌/◌, ◌%◌, ap}
use Rattle.std.proofs.lemmas.Result.{on_ok_weaker}
use Rattle.std.specs.Prelude.{decimal}
use Rattle.sef_moment.specs.Utc.{utc_text}
use Rattle.page_text.specs.Parts.{with_part}
use Rattle.day_tables.specs.Values.{clock_text, grouped}
use Rattle.instrument_charts.proofs.glyphs.add_glyph.Goals as goal

pub returns : goal.returns
returns c =
    on_ok_weaker c.add.result
    (λ e. e ∙ (λ j. with_part c.args.page.now (record {
      template = c.glyph_template.ensures j;
      values = (c.deref.ensures.value ∙ c.in_ok-number.ensures) j ∷ c.shape_of.ensures j ∷ c.class_of.ensures j
          ∷ (c.deref-2.ensures.value ∙ (c.in_ok-whole.ensures ∙ ap (λ (x : ℕ). decimal (x / 100)) c.across-x.ensures)) j
          ∷ (c.deref-3.ensures.value ∙ (c.in_ok-tenth.ensures ∙ ap (λ (x : ℕ). decimal (x / 10 % 10)) c.across-x.ensures)) j
          ∷ (c.deref-4.ensures.value ∙ (c.in_ok-hundredth.ensures ∙ ap (λ (x : ℕ). decimal (x % 10)) c.across-x.ensures)) j
          ∷ (c.deref-5.ensures.value ∙ (c.in_ok-y.ensures ∙ ap decimal c.down.ensures)) j
          ∷ (c.deref-6.ensures.value ∙ c.in_ok-number.ensures) j ∷ (c.deref-7.ensures.value ∙ (c.in_ok-time.ensures ∙ ap (λ (dated : Bool). clock_text dated (utc_text c.args.deal.now.moment)) c.has_dates.ensures)) j
          ∷ (c.deref-8.ensures.value ∙ (c.in_ok-quantity.ensures ∙ ap grouped c.get.ensures.value)) j ∷ (c.deref-9.ensures.value ∙ c.in_ok-price.ensures) j ∷ [];
    })))
    c.add.ensures.added
