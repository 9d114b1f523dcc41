use Rattle.std.proofs.Common.{◌∷◌, [], ◌∙◌, ap}
use Rattle.std.proofs.lemmas.Result.{on_ok_weaker}
use Rattle.page_text.specs.Parts.{with_part}
use Rattle.day_tables.specs.Values.{grouped, moment_of}
use Rattle.day_page.specs.declared.template.TheConstants.{HEAD}
use Rattle.day_page.specs.Sections.{days_of}
use Rattle.day_page.proofs.head.add_identity.Goals as goal

pub returns : goal.returns
returns c =
    on_ok_weaker c.add.result
    (λ e. e ∙ (λ j. with_part c.args.page.now (record {
      template = HEAD.now;
      values = c.venue.ensures.value j ∷ (c.deref.ensures.value ∙ (c.in_ok-days.ensures ∙ (λ k. days_of (c.first_utc-first.ensures k) (c.last_utc-last.ensures k)))) j ∷ (c.deref-2.ensures.value ∙ c.in_ok-rows.ensures) j
          ∷ (c.moment_of.ensures ∙ ap moment_of c.first_utc-first.ensures) j ∷ (c.moment_of-2.ensures ∙ ap moment_of c.last_utc-last.ensures) j
          ∷ (c.deref-3.ensures.value ∙ (c.in_ok-people.ensures ∙ ap grouped c.len.ensures.count)) j ∷ (c.deref-4.ensures.value ∙ (c.in_ok-listed.ensures ∙ ap grouped c.len-2.ensures.count)) j
          ∷ (c.as_bytes.ensures.value ∙ c.in_ok-digest.ensures) j ∷ (c.as_bytes-2.ensures.value ∙ c.in_ok-participants_digest.ensures) j ∷ (c.deref-5.ensures.value ∙ c.in_ok-participants_length.ensures) j
          ∷ (c.as_bytes-3.ensures.value ∙ c.in_ok-instruments_digest.ensures) j ∷ (c.deref-6.ensures.value ∙ c.in_ok-instruments_length.ensures) j ∷ [];
    })))
    c.add.ensures.added
