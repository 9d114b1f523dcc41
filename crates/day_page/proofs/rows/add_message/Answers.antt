use Rattle.std.proofs.Common.{◌∷◌, [], ◌∙◌, ap}
use Rattle.std.proofs.lemmas.Result.{on_ok_weaker}
use Rattle.std.specs.Prelude.{decimal}
use Rattle.page_text.specs.Parts.{with_part}
use Rattle.message_words.specs.Visible.{readable}
use Rattle.day_page.specs.declared.template.TheConstants.{MESSAGE}
use Rattle.day_page.proofs.rows.add_message.Goals as goal

pub returns : goal.returns
returns c =
    on_ok_weaker c.add.result
    (λ e. e ∙ (λ j. with_part c.args.page.now (record {
      template = MESSAGE.now;
      values = (c.deref.ensures.value ∙ c.in_ok-number.ensures) j ∷ (c.deref-2.ensures.value ∙ c.in_ok-number.ensures) j ∷ c.print_utc-moment.ensures j ∷ c.sender_name.ensures j ∷ (c.deref-3.ensures.value ∙ (c.in_ok-sequence.ensures ∙ ap decimal c.from.ensures)) j ∷ (c.deref-4.ensures.value ∙ (c.in_ok-era.ensures ∙ ap decimal c.from-2.ensures)) j
          ∷ (c.deref-5.ensures.value ∙ c.in_ok-words.ensures) j ∷ (c.deref-6.ensures.value ∙ (c.in_ok-text.ensures ∙ ap readable c.as_slice.ensures)) j ∷ [];
    })))
    c.add.ensures.added
