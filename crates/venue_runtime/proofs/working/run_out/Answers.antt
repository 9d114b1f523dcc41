use Rattle.std.proofs.Common.{◌∙◌, ℕ, ap, subst, sym}
use Rattle.venue_rules.specs.Kept.{IsRisen}
use Rattle.venue_worker.specs.Work.{Work}
use Rattle.venue_runtime.proofs.working.run_out.Goals as goal

pub returns-clause-stopped : goal.returns-clause-stopped
returns-clause-stopped g c =
    let refused = c.into_parts-in-Err.ensures.keeper.2 ∙ ap (λ (w : Work). w.ledger.refused) c.shut_down.ensures.only.0 in
    subst (λ (n : ℕ). IsRisen c.args.worker.ledger.refused n) (sym refused) c.in-Err.ensures.ran.stop.1

pub returns-clause-shut_down : goal.returns-clause-shut_down
returns-clause-shut_down g c =
    let parts = c.into_parts-in-Err.ensures in
    record {
      middle = c.run.new.self;
      after = c.shut_down.new.self;
      between = g.W.Clock.answered c.refused.new.self;
      end_tokens = c.run.new.end_takes.items;
      run = rw c.refused.ensures c.in-Err.ensures.ran;
      only = c.shut_down.ensures.only;
      seen_off = c.shut_down.ensures.seen_off;
      served = c.shut_down.ensures.served;
      rounds = c.shut_down.ensures.rounds;
      parts = record {
        market = parts.venue.0;
        stands = parts.venue.1;
        rows_are = parts.keeper.0;
        clean = parts.keeper.1;
        refusals = parts.keeper.2;
        queues_are = parts.queues;
        takes_are = parts.seats.0;
        hands_are = parts.seats.1;
      };
    }
