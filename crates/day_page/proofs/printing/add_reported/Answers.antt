use Rattle.std.proofs.Common.{List, length, ap, ◌∙◌}
use Rattle.std.proofs.lemmas.Result.{on_ok_weaker}
use Rattle.page_text.specs.Parts.{with_parts}
use Rattle.venue_rules.specs.declared.trail.TradeFact.{TradeFact}
use Rattle.day_sections.specs.Flags.{flags}
use Rattle.day_sections.specs.Trades.{trades_parts}
use Rattle.day_page.proofs.Pages.{err_says_nothing}
use Rattle.day_page.proofs.printing.add_reported.Goals as goal

pub returns-in_err-flags : goal.returns-in_err-flags
returns-in_err-flags c = λ h is. err_says_nothing _ c.from_residual.result _ c.from_residual.ensures.1

pub returns : goal.returns
returns c = λ h is.
    let facts = c.trades-trades.ensures h is in
    let flagged = c.deref.ensures.value ∙ (c.in_ok-flags.ensures ∙ ap (λ (ts : List TradeFact). flags c.args.traded.now.linked.now (length ts)) facts) in
    on_ok_weaker c.add_trades.result
    (λ e. e ∙ (λ j. with_parts c.args.page.now (trades_parts (record {
      participants = c.participants.ensures j;
      instruments = c.instruments.ensures j;
      reports = c.args.traded.now.reports.now;
      flags = flagged j;
      shown = c.are_shown.ensures j;
      dated = c.is_dated.ensures j;
    }) (facts j))))
    c.add_trades.ensures
