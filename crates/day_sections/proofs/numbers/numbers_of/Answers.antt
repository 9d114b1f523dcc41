use Rattle.std.proofs.Common.{◌+◌, List, ap, subst}
use Rattle.std.specs.Prelude.{◌==◌, count_by}
use Rattle.std.proofs.lemmas.List.{take_all}
use Rattle.day_events.specs.declared.event.Event.{Event}
use Rattle.day_sections.specs.declared.counts.Kind.TheVariants as kind
use Rattle.day_sections.specs.Numbers.{AreNumbers}
use Rattle.day_sections.proofs.Counting.{counts_on}
use Rattle.day_sections.proofs.numbers.numbers_of.Goals as goal

pub loop-event-init : goal.loop-event-init
loop-event-init c = record {
  refused = λ p. ap (count_by (λ n. n == p + 1)) c.new.ensures.items;
  entered = λ p. ap (count_by (λ n. n == p + 1)) c.new-2.ensures.items;
  replaced = λ p. ap (count_by (λ n. n == p + 1)) c.new-3.ensures.items;
  cancelled = λ p. ap (count_by (λ n. n == p + 1)) c.new-4.ensures.items;
  asked = λ p. ap (count_by (λ n. n == p + 1)) c.new-5.ensures.items;
  quotes = λ p. ap (count_by (λ n. n == p + 1)) c.new-6.ensures.items;
  hits = λ p. ap (count_by (λ n. n == p + 1)) c.new-7.ensures.items;
}

pub loop-event-preserved : goal.loop-event-preserved
loop-event-preserved c =
    let es = c.args.events.now in
    let i = c.loop-event.event-index in
    let e = c.event-item.result in
    let old = c.loop-event.numbers in
    let new = c.note_each.new.numbers in
    let below = c.loop-event-test.true in
    let is = c.event-item.is in
    let more = c.in_ok-note_each.ensures in
    let h = c.loop-event.invariant in
    record {
      refused = λ p. counts_on kind.Refused es i e old.refused.items new.refused.items p below is more.refused (h.refused p);
      entered = λ p. counts_on kind.Entered es i e old.entered.items new.entered.items p below is more.entered (h.entered p);
      replaced = λ p. counts_on kind.Replaced es i e old.replaced.items new.replaced.items p below is more.replaced (h.replaced p);
      cancelled = λ p. counts_on kind.Cancelled es i e old.cancelled.items new.cancelled.items p below is more.cancelled (h.cancelled p);
      asked = λ p. counts_on kind.Asked es i e old.asked.items new.asked.items p below is more.asked (h.asked p);
      quotes = λ p. counts_on kind.Quotes es i e old.quotes.items new.quotes.items p below is more.quotes (h.quotes p);
      hits = λ p. counts_on kind.Hits es i e old.hits.items new.hits.items p below is more.hits (h.hits p);
    }

pub returns : goal.returns
returns c = subst (λ (es : List Event). AreNumbers es c.loop-event.numbers) (take_all c.loop-event.event-index c.args.events.now c.loop-event-test.false) c.loop-event.invariant
