use Rattle.std.proofs.Common.{subst}
use Rattle.venue_rules.specs.Market.{Market}
use Rattle.venue_rules.specs.Run.{run}
use Rattle.row_replay.specs.Inputs.{input_of}
use Rattle.refusal_causes.specs.Printed.{IsWhy}
use Rattle.refusal_causes.proofs.printing.why_of.Goals as goal

pub returns : goal.returns
returns c =
    let a = c.args in
    let m : Market = record { participants = a.participants; instruments = a.instruments } in
    let e = c.in_ok-venue.ensures.emitted in
    let i = input_of c.in_ok-taken.taken a.row.now.moment in
    record {
      earlier = e.0;
      emitted = c.rows_have_their_inputs.ensures a.earlier.now e.0 e.1;
      input = i;
      emits = c.in_ok-taken.ensures;
      why = subst (λ (n : Market). IsWhy n (run m e.0).history a.row.now i c.in_ok-text.text.items) e.2.market (c.in_ok-text.ensures (run m e.0).history e.2.history);
    }
