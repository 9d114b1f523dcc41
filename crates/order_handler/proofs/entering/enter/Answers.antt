use Rattle.std.proofs.Common.{◌≡◌, ◌∙◌, ap, sym, length, option_map, ◌+◌, arith}
use Rattle.std.specs.List.{slice_get}
use Rattle.venue_rules.specs.Answer.{Answer, numbered}
use Rattle.venue_rules.specs.Book.{fills}
use Rattle.venue_rules.specs.Entering.{entering}
use Rattle.venue_rules.specs.Facts.{entries, trades}
use Rattle.venue_rules.specs.Market.{Market, market_of}
use Rattle.price_book.specs.Plan.{Plan}
use Rattle.order_handler.specs.Made.{are_listed}
use Rattle.order_handler.specs.Parts.{Parts}
use Rattle.order_handler.specs.Reports.{reports_of}
use Rattle.order_handler.proofs.Accepting.{accepted-is, accepted-read, trades-entered}
use Rattle.order_handler.proofs.Turning.{accepted-there, entry-listed, refused-there}
use Rattle.order_handler.proofs.entering.enter.Goals as goal

pub returns-in-Err-clause-refused : goal.returns-in-Err-clause-refused
returns-in-Err-clause-refused c = λ h delay x.
    refused-there (market_of c.args.turn.now.market) h c.args.book.now.facts delay c.args.turn.now.counts c.args.order.now c.args.turn.now.moment c.in-Err.refusal (c.parts_are_read_alone.ensures h c.args.book.now.facts delay c.args.turn.now.counts x) c.in-Err.ensures.refused

pub of-requires-clause-trades : goal.of-requires-clause-trades
of-requires-clause-trades c =
    let planned = c.in-Ok.ensures.planned.1 in
    let same : length (trades c.in-Ok.plan.facts) ≡ length c.in-Ok.plan.fills =
    ap (λ (p : Plan). length (trades p.facts)) planned
    ∙ trades-entered (entering c.args.book.now.facts c.args.order.now 0 c.args.turn.now.moment) (fills c.args.book.now.facts c.args.order.now)
    ∙ sym (ap (λ (p : Plan). length p.fills) planned) in
    omega (arith, same, c.in-Ok.ensures.few)

pub returns-clause-planned : goal.returns-clause-planned
returns-clause-planned c = λ h delay x.
    let m : Market = market_of c.args.turn.now.market in
    let alone = c.parts_are_read_alone.ensures h c.args.book.now.facts delay c.args.turn.now.counts x in
    let planned = c.in-Ok.ensures.planned in (
      accepted-there m h c.args.book.now.facts delay c.args.turn.now.counts c.args.order.now c.args.turn.now.moment alone planned.0,
      accepted-is m c.args.book.now.facts c.args.order.now c.args.turn.now.moment (c.args.turn.now.counts.trades + 1) c.args.turn.now.counts.reports c.in-Ok.plan c.symbol_of-symbol.result c.unwrap-entry.result.now c.in-Ok-entry_replies.replies.items c.of.result
          planned.1
          c.symbol_of-symbol.ensures
          (sym (ap (option_map (λ e. e.now)) c.unwrap-entry.ensures) ∙ c.entered.ensures ∙ ap (λ p. slice_get (entries p.facts) 0) planned.1)
          c.in-Ok.ensures.here
          (c.in-Ok-entry_replies.ensures.replies ∙ ap (λ fs. numbered c.args.turn.now.counts.reports (reports_of c.symbol_of-symbol.result c.unwrap-entry.result.now (c.args.turn.now.counts.trades + 1) fs)) c.fills.ensures)
          (ap (λ (p : Parts). let a : Answer = record { facts = p.book; replies = p.replies } in a) c.of.ensures)
          ∙ sym (accepted-read m h c.args.book.now.facts delay c.args.turn.now.counts c.args.order.now c.args.turn.now.moment alone),
    )

pub returns-clause-listed : goal.returns-clause-listed
returns-clause-listed c =
    ap (λ (p : Parts). are_listed (length c.args.turn.now.market.instruments.now) p.book) c.of.ensures
    ∙ ap (λ (p : Plan). are_listed (length c.args.turn.now.market.instruments.now) p.facts) c.in-Ok.ensures.planned.1
    ∙ entry-listed (length c.args.turn.now.market.instruments.now) (entering c.args.book.now.facts c.args.order.now 0 c.args.turn.now.moment) (fills c.args.book.now.facts c.args.order.now) c.requires.listed
