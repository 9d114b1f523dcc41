use Rattle.std.proofs.Common.{◌∷◌, [], ◌∙◌, ◌+◌, ap, ℕ}
use Rattle.std.proofs.lemmas.Result.{on_ok_weaker}
use Rattle.std.specs.Prelude.{decimal}
use Rattle.participants.specs.Relations.{name_of}
use Rattle.page_text.specs.Parts.{with_part}
use Rattle.day_sections.specs.declared.template.TheConstants.{PERSON}
use Rattle.day_tables.specs.Values.{grouped}
use Rattle.day_sections.specs.declared.counts.Kind.TheVariants as kind
use Rattle.day_sections.proofs.Counting.{counted}
use Rattle.day_sections.proofs.people.add_sent.Goals as goal

pub returns : goal.returns
returns c =
    let k = c.args.kept.now in
    on_ok_weaker c.add.result
    (λ e. e ∙ (λ j. with_part c.args.page.now (record {
      template = PERSON.now;
      values = (c.deref-5.ensures.value ∙ (c.in_ok-number.ensures ∙ ap (λ (n : ℕ). decimal (n + 1)) c.from.ensures)) j ∷ (c.name_at-name.ensures ∙ ap (name_of c.args.participants.now) c.of.ensures) j ∷ (c.deref-6.ensures.value ∙ (c.in_ok-sent.ensures ∙ ap grouped c.count_sent.ensures)) j
          ∷ (c.deref-7.ensures.value ∙ (c.in_ok-refused.ensures ∙ ap grouped (counted c.deref.result.now k.numbers.now.refused.items c.repeats.result c.args.place kind.Refused k.events.now c.repeats.ensures c.deref.ensures.value c.requires.numbers.refused))) j
          ∷ (c.deref-8.ensures.value ∙ (c.in_ok-entered.ensures ∙ ap grouped (counted c.deref-2.result.now k.numbers.now.entered.items c.repeats-2.result c.args.place kind.Entered k.events.now c.repeats-2.ensures c.deref-2.ensures.value c.requires.numbers.entered))) j
          ∷ (c.deref-9.ensures.value ∙ (c.in_ok-replaced.ensures ∙ ap grouped (counted c.deref-3.result.now k.numbers.now.replaced.items c.repeats-3.result c.args.place kind.Replaced k.events.now c.repeats-3.ensures c.deref-3.ensures.value c.requires.numbers.replaced))) j
          ∷ (c.deref-10.ensures.value ∙ (c.in_ok-cancelled.ensures ∙ ap grouped (counted c.deref-4.result.now k.numbers.now.cancelled.items c.repeats-4.result c.args.place kind.Cancelled k.events.now c.repeats-4.ensures c.deref-4.ensures.value c.requires.numbers.cancelled))) j ∷ [];
    })))
    c.add.ensures.added
