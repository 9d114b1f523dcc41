use Rattle.std.proofs.Common.{◌≡◌, ◌∙◌, sym, ap, refl, subst, List, length, Some, None, option_map}
use Rattle.venue_rules.specs.declared.facts.Fact.{Fact}
use Rattle.venue_rules.specs.Facts.{entries}
use Rattle.venue_rules.specs.Book.{Resting}
use Rattle.price_book.specs.Live.{change, changes, steps, entering, joined_by, Ledger}
use Rattle.price_book.specs.SideIndex.{IsConsistent, HasCapacity}
use Rattle.price_book.specs.Views.{seen}
use Rattle.price_book.proofs.Joining.{joined, changes-more, changes-end, entered-last, ledger-steps, entering-some}
use Rattle.price_book.proofs.changes.add_facts.Goals as goal

pub loop-fact-init : goal.loop-fact-init
loop-fact-init c = ((λ rs h. record { now = rs; step = h; same = refl }), c.requires.headroom)

pub change-requires : goal.change-requires
change-requires c = let g = c.loop-fact.invariant.0 c.requires.step.0 c.requires.step.2 in (g.now, g.step)

pub loop-fact-preserved : goal.loop-fact-preserved
loop-fact-preserved c =
    let fs : List Fact = c.args.facts.now in
    let i = c.loop-fact.fact-index in
    let f : Fact = c.fact-item.result in (
      (λ rs h.
          let g = c.loop-fact.invariant.0 rs h in
          record {
            now = change g.now f;
            step = c.change.ensures.step g.now g.step;
            same = sym (changes-more g.now fs i f c.loop-fact-test.true c.fact-item.is) ∙ g.same;
          }),
      c.change.ensures.headroom (length (entries fs)) c.loop-fact.invariant.1,
    )

pub enter-requires-clause-headroom : goal.enter-requires-clause-headroom
enter-requires-clause-headroom c =
    let fs : List Fact = c.args.facts.now in
    let some : entering fs ≡ Some (seen c.in-Some.order) = sym c.entering.ensures ∙ ap (option_map seen) c.in-Some.is in
    subst (λ n. HasCapacity n c.loop-fact.orders) (entering-some fs (seen c.in-Some.order) some c.requires.headroom.one) c.loop-fact.invariant.1

pub returns-in-Some-clause-step : goal.returns-in-Some-clause-step
returns-in-Some-clause-step c = λ rs l h.
    let fs : List Fact = c.args.facts.now in
    let r : Resting = seen c.in-Some.order in
    let g = c.loop-fact.invariant.0 rs h in
    let end : g.now ≡ changes rs fs = sym (changes-end g.now fs c.loop-fact.fact-index c.loop-fact-test.false) ∙ g.same in
    let some : entering fs ≡ Some r = sym c.entering.ensures ∙ ap (option_map seen) c.in-Some.is in
    let same : steps rs fs ≡ joined_by r (changes rs fs) = entered-last rs fs c.requires.headroom.one l ∙ ap (λ o. joined o (changes rs fs)) some in
    let ledger : Ledger 0 (joined_by r (changes rs fs)) = rw same at (ledger-steps rs fs l) in
    let step : IsConsistent (changes rs fs) c.loop-fact.orders = rw end at g.step in
    rw same (c.enter.ensures.step (changes rs fs) ledger step)

pub returns-in_default-clause-step : goal.returns-in_default-clause-step
returns-in_default-clause-step c = λ rs l h.
    let fs : List Fact = c.args.facts.now in
    let g = c.loop-fact.invariant.0 rs h in
    let end : g.now ≡ changes rs fs = sym (changes-end g.now fs c.loop-fact.fact-index c.loop-fact-test.false) ∙ g.same in
    let none : entering fs ≡ None = sym c.entering.ensures ∙ ap (option_map seen) c.in_default.is in
    let same : steps rs fs ≡ changes rs fs = entered-last rs fs c.requires.headroom.one l ∙ ap (λ o. joined o (changes rs fs)) none in
    let step : IsConsistent (changes rs fs) c.loop-fact.orders = rw end at g.step in
    rw same step
