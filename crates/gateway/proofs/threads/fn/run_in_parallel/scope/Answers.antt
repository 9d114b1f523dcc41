use Rattle.std.proofs.Common.{◌∙◌, ap, sym, subst, List, ℕ, length}
use Rattle.std.specs.Prelude.{slice_get}
use Rattle.gateway.specs.Served.{Served, HasServed, begun}
use Rattle.gateway.proofs.Joins.{at_map}
use Rattle.gateway.proofs.Reached.{slice_map}
use Rattle.gateway.proofs.Seats.{length-mapped}
use Rattle.gateway.proofs.threads.fn.run_in_parallel.scope.Goals as goal

pub returns-in-Ok : goal.returns-in-Ok
returns-in-Ok g c =
    let starts : List Served = c.captures.starts.items in
    let started = λ (s : Served). begun c.captures.turns s in
    let all = c.in_ok-handles.ensures.started in
    record {
      worked = c.work-done.ensures;
      served = record {
        count = c.in-Ok.ensures.count ∙ sym (length-mapped _ c.in_ok-handles.handles.items) ∙ ap (λ (zs : List (ℕ × Served)). length zs) all ∙ length-mapped started starts;
        each = λ k start end at_s at_e.
            let found = at_map _ c.in_ok-handles.handles.items k (started start) (ap (λ (zs : List (ℕ × Served)). slice_get zs k) all ∙ slice_map started starts k start at_s) in
            subst (λ (b : ℕ × Served). HasServed b.0 b.1 end) found.2 (c.in-Ok.ensures.each k found.0 end found.1 at_e);
      };
    }
