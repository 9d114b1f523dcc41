use Rattle.std.proofs.Common.{◌∷◌, [], ◌∙◌, ap, ℕ}
use Rattle.std.proofs.lemmas.Result.{on_ok_weaker}
use Rattle.page_text.specs.Parts.{with_part}
use Rattle.surveillance.specs.declared.deeds.Act.TheVariants as act
use Rattle.surveillance.specs.Deeds.{times}
use Rattle.day_sections.specs.declared.template.TheConstants.{PERSON_QUOTES}
use Rattle.day_tables.specs.Values.{grouped}
use Rattle.day_sections.specs.declared.counts.Kind.TheVariants as kind
use Rattle.day_sections.specs.People.{hit_ratio}
use Rattle.day_sections.proofs.Counting.{counted}
use Rattle.day_sections.proofs.people.add_quoted.Goals as goal

pub returns : goal.returns
returns c =
    let k = c.args.kept.now in
    on_ok_weaker c.add.result
    (λ e. e ∙ (λ j. with_part c.args.page.now (record {
      template = PERSON_QUOTES.now;
      values = (c.deref-4.ensures.value ∙ (c.in_ok-asked.ensures ∙ ap grouped (counted c.deref.result.now k.numbers.now.asked.items c.repeats.result c.args.place kind.Asked k.events.now c.repeats.ensures c.deref.ensures.value c.requires.numbers.asked))) j
          ∷ (c.deref-5.ensures.value ∙ (c.in_ok-rooms.ensures ∙ ap grouped (c.times.ensures ∙ ap (λ (p : ℕ). times act.Quoted p k.deeds.now) c.of-who.ensures))) j
          ∷ (c.deref-6.ensures.value ∙ (c.in_ok-quotes.ensures ∙ ap grouped (counted c.deref-2.result.now k.numbers.now.quotes.items c.repeats-2.result c.args.place kind.Quotes k.events.now c.repeats-2.ensures c.deref-2.ensures.value c.requires.numbers.quotes))) j
          ∷ (c.deref-7.ensures.value ∙ (c.in_ok-hits.ensures ∙ ap grouped (counted c.deref-3.result.now k.numbers.now.hits.items c.repeats-3.result c.args.place kind.Hits k.events.now c.repeats-3.ensures c.deref-3.ensures.value c.requires.numbers.hits))) j
          ∷ (c.deref-8.ensures.value ∙ (c.in_ok-ratio.ensures ∙ ap (λ (p : ℕ). hit_ratio k.deeds.now p) c.of-who.ensures)) j ∷ [];
    })))
    c.add.ensures.added
