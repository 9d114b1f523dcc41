use Rattle.std.proofs.Common.{◌∙◌, ap, sym, ◌+◌}
use Rattle.venue_rules.specs.Facts.{is_cross_id_used, next_order}
use Rattle.venue_rules.specs.Book.{fills, find_order, is_side_full, picture, too_soon}
use Rattle.venue_rules.specs.Delay.{due, find_held, held}
use Rattle.order_handler.proofs.ReadAlone.{used-in}
use Rattle.order_handler.proofs.laws.parts_are_read_alone.Goals as goal

pub returns : goal.returns
returns c = λ h book delay counts x.
    let b = c.book_is_read_alone.ensures in
    let d = c.delay_is_read_alone.ensures in
    record {
      used = used-in d.used h book delay counts x;
      crossed = λ who id. sym (d.crossed h.facts who id) ∙ ap (λ fs. is_cross_id_used fs who id) x.of_delay;
      filled = λ o. sym (b.fills h.facts o) ∙ ap (λ fs. fills fs o) x.of_book;
      soon = λ m o t. sym (b.too_soon m h.facts o t) ∙ ap (λ fs. too_soon m fs o t) x.of_book;
      full = λ o. sym (b.side_full h.facts o) ∙ ap (λ fs. is_side_full fs o) x.of_book;
      shown = λ p. sym (b.picture h.facts p) ∙ ap (λ fs. picture fs p) x.of_book;
      order = λ who id. sym (b.order h.facts who id) ∙ ap (λ fs. find_order fs who id) x.of_book;
      side = λ who id. sym (d.side h.facts who id) ∙ ap (λ fs. find_held fs who id) x.of_delay;
      sides = sym (d.held h.facts) ∙ ap held x.of_delay;
      first_due = λ t. sym (d.due h.facts t) ∙ ap (λ fs. due fs t) x.of_delay;
      order_number = sym (b.next h.facts) ∙ ap next_order x.of_book;
      trade_number = ap (λ n. n + 1) x.of_trades;
      reports = x.of_reports;
    }
