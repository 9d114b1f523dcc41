use Rattle.std.proofs.Common.{◌≡◌, ℕ, List, OnOk, length, ap, ◌∙◌, subst}
use Rattle.std.specs.Io.KnownBytes.{Appends}
use Rattle.venue_main.specs.Check.{counted, summary}
use Rattle.venue_main.proofs.check.write_summary.Goals as goal

pub returns : goal.returns
returns g c =
    let written = g.W.Write.contents c.args.writer.now in
    let written' = g.W.Write.contents c.write_counts.new.writer in
    let file = c.args.market.now.participants in
    let rows = c.args.market.now.instruments in
    let pairs = length c.pairs-pairs.result.now in
    let same : counted c.len-names.result pairs c.len-rows.result ≡ summary file rows =
    ap (λ (k : ℕ). counted k pairs c.len-rows.result) c.len-names.ensures.count
    ∙ ap (λ (k : ℕ). counted (length file.names) k c.len-rows.result) (ap (λ (l : List (ℕ × ℕ)). length l) c.pairs-pairs.ensures)
    ∙ ap (counted (length file.names) (length file.pairs)) c.len-rows.ensures.count in
    subst (λ (line : List ℕ). OnOk c.write_counts.result (Appends written written' line)) same c.write_counts.ensures
