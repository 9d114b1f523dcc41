use Rattle.std.proofs.Common.{◌∙◌, ap, sym, Option}
use Rattle.std.proofs.lemmas.Result.{on_ok_weaker}
use Rattle.page_text.specs.Parts.{with_parts}
use Rattle.day_tables.specs.declared.bulletin.Span.{Span}
use Rattle.day_tables.specs.Bulletin.{span_parts}
use Rattle.day_tables.proofs.bulletin.add_traded.Goals as goal

pub returns-in-Some : goal.returns-in-Some
returns-in-Some c =
    on_ok_weaker c.add_span.result
    (λ e. e ∙ ap (λ (o : Option Span). with_parts c.args.page.now (span_parts c.args.instruments.now c.args.trades.now c.args.instrument o)) (sym c.in-Some.is ∙ c.span_of.ensures))
    c.add_span.ensures
