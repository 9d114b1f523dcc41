use Rattle.std.proofs.Common.{◌≡◌, sym, ap, ◌∙◌, true, length, arith}
use Rattle.instruments.specs.Delays.{are_delays, with_delays}
use Rattle.instruments.specs.Rows.{is_instrument_file}
use Rattle.instruments.proofs.DelayLemmas.{file-delayed}
use Rattle.instruments.proofs.instruments.Instruments.with_delays.Goals as goal

pub from_rows-requires : goal.from_rows-requires
from_rows-requires c =
    let many : length c.args.delays.now ≡ length c.args.self.now = omega (arith, c.len.ensures.count, c.if-delays-len.false) in
    let good : are_delays c.args.delays.now ≡ true = sym c.are_delays.ensures ∙ c.if-not-are_delays.false in
    let made : c.in-Ok.rows.items ≡ with_delays c.args.self.now c.args.delays.now = c.in-Ok.ensures ∙ ap (λ xs. with_delays xs c.args.delays.now) c.as_slice.ensures.rows in
    ap is_instrument_file made ∙ file-delayed c.args.self.now c.args.delays.now c.len.ensures.rule many good
