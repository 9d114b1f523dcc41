use Rattle.std.proofs.Common.{ℕ, List, length, ◌∙◌, ap}
use Rattle.std.proofs.lemmas.Result.{on_ok_weaker}
use Rattle.day_events.specs.declared.event.Event.{Event}
use Rattle.page_text.specs.Parts.{with_parts}
use Rattle.day_sections.specs.Rooms.{rooms}
use Rattle.rule_counts.specs.Rules.{rules_parts}
use Rattle.day_page.proofs.Pages.{err_says_nothing}
use Rattle.day_page.proofs.printing.add_law.Goals as goal

pub returns-in_err-requests : goal.returns-in_err-requests
returns-in_err-requests c = λ h is. err_says_nothing _ c.from_residual.result _ c.from_residual.ensures.1

pub returns : goal.returns
returns c = λ h is.
    let requests = c.many.ensures ∙ ap (λ (l : List Event). length l) (c.deref-2.ensures.value ∙ (c.in_ok-requests.ensures ∙ ap rooms c.deref.ensures.value)) in
    on_ok_weaker c.add_rules.result
    (λ e. e ∙ (λ j. with_parts c.args.page.now (rules_parts (c.instruments.ensures j) (record {
      requests = requests j;
      trades = c.trades.ensures h is j;
      events = c.deref-3.ensures.value j;
      shown = c.deref-4.ensures.value j;
      linked = c.args.linked.now;
    }))))
    c.add_rules.ensures
