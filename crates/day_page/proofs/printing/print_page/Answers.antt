use Rattle.std.proofs.Common.{subst}
use Rattle.std.specs.Io.KnownBytes.{Appends}
use Rattle.std.proofs.lemmas.Result.{on_ok_weaker}
use Rattle.day_page.proofs.printing.print_page.Goals as goal

pub returns-clause-emitted : goal.returns-clause-emitted
returns-clause-emitted g c =
    on_ok_weaker c.write_text.result
    (λ w. record {
      page = c.in_ok-page.page;
      made = c.in_ok-page.ensures;
      written = subst (Appends (g.W.Write.contents c.args.writer.now) (g.W.Write.contents c.write_text.new.writer)) c.text.ensures w;
    })
    c.write_text.ensures.written
