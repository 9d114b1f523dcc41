use Rattle.std.proofs.Common.{◌≡◌, ◌∙◌, Ok, Err, refl, sym, subst}
use Rattle.venue_rules.specs.declared.trail.EventFault.{EventFault}
use Rattle.venue_rules.specs.declared.trail.EventFault.TheVariants.{Behind}
use Rattle.venue_worker.specs.Calls.{Ticks}
use Rattle.venue_worker.proofs.Moving.{moves_ticks}
use Rattle.venue_worker.proofs.Refusals.{ticks_at, tick_due, moves_late, fault_cut, tick_unrefused, tick_falls, tick_settled, tick_behind, tick_no_memory, tick_named, tick_stops, tick_waits, met_settled, not_ticked, tick_counts, cut_count, cut_hands, met_hands, met_count}
use Rattle.venue_worker.proofs.Acting.{follows_wait, tick_on, tick_refused, ticked}
use Rattle.venue_worker.proofs.worker.Worker.tick_or_retry.Goals as goal

pub returns-in-Ok : goal.returns-in-Ok
returns-in-Ok g c =
    let old = c.args.self.now in
    let new = c.tick.new.self in
    let t = c.args.moment in
    let d = ticks_at t (Ok c.in-Ok.ticked) old new c.requires.late c.in-Ok.ensures.ticks in
    record {
      moves = moves_ticks t (Ok c.in-Ok.ticked) old new c.requires.late d;
      stop = tick_unrefused t c.in-Ok.ticked old new d;
      late = moves_late t old new c.requires.late (moves_ticks t (Ok c.in-Ok.ticked) old new c.requires.late d);
      falls = tick_falls t c.in-Ok.ticked old new c.ticks_fall.ensures c.tick.ensures.kept d;
      settled = tick_settled t c.in-Ok.ticked old new d;
      hands = d.place.hands;
      counts = tick_counts t c.in-Ok.ticked old new d;
      acts = ticked t c.in-Ok.ticked old new d;
    }

pub cut-requires : goal.cut-requires
cut-requires g c =
    let f = fault_cut c.in-Err.fault c.in-Cut.j (sym c.in-Cut.ensures) in
    record { named = tick_named c.args.moment c.in-Cut.j c.args.self.now c.tick.new.self (subst (λ (z : EventFault). Ticks c.args.moment (Err z) c.args.self.now c.tick.new.self) f (ticks_at c.args.moment (Err c.in-Err.fault) c.args.self.now c.tick.new.self c.requires.late c.in-Err.ensures.ticks)) }

pub returns-in-Cut : goal.returns-in-Cut
returns-in-Cut g c =
    let old = c.args.self.now in
    let mid = c.tick.new.self in
    let new = c.note_refusal.new.self in
    let t = c.args.moment in
    let f = fault_cut c.in-Err.fault c.in-Cut.j (sym c.in-Cut.ensures) in
    let d = subst (λ (z : EventFault). Ticks t (Err z) old mid) f (ticks_at t (Err c.in-Err.fault) old mid c.requires.late c.in-Err.ensures.ticks) in
    let m = tick_behind t c.in-Cut.j old mid c.cut.new.self new c.requires.late d c.cut.ensures.cuts c.note_refusal.ensures in
    record {
      moves = m.0;
      stop = m.1;
      late = moves_late t old new c.requires.late m.0;
      falls = λ e. not_ticked e;
      settled = λ e. met_settled t c.cut.new.self new c.note_refusal.ensures;
      hands = cut_hands c.in-Cut.j mid c.cut.new.self new c.cut.ensures.cuts c.note_refusal.ensures ∙ d.place.hands;
      counts = cut_count c.in-Cut.j mid c.cut.new.self new c.cut.ensures.cuts c.note_refusal.ensures ∙ d.ticked.unanswered.count;
      acts = tick_on t (Behind c.in-Cut.j) old mid new d (c.cut.new.self, c.cut.ensures.cuts, c.note_refusal.ensures);
    }

pub returns-in-Wait : goal.returns-in-Wait
returns-in-Wait g c =
    let old = c.args.self.now in
    let mid = c.tick.new.self in
    let new = c.note_refusal-in-Wait.new.self in
    let t = c.args.moment in
    let d = ticks_at t (Err c.in-Err.fault) old mid c.requires.late c.in-Err.ensures.ticks in
    let m = tick_no_memory t c.in-Err.fault old mid new c.requires.late d c.note_refusal-in-Wait.ensures (tick_waits t c.in-Err.fault old mid d (sym c.in-Wait.ensures)) in
    record {
      moves = m.0;
      stop = m.1;
      late = moves_late t old new c.requires.late m.0;
      falls = λ e. not_ticked e;
      settled = λ e. met_settled t mid new c.note_refusal-in-Wait.ensures;
      hands = met_hands mid new c.note_refusal-in-Wait.ensures ∙ d.place.hands;
      counts = met_count mid new c.note_refusal-in-Wait.ensures ∙ d.ticked.unanswered.count;
      acts = tick_on t c.in-Err.fault old mid new d (follows_wait c.in-Err.fault mid new (sym c.in-Wait.ensures) (tick_due t c.in-Err.fault old mid d) c.note_refusal-in-Wait.ensures);
    }

pub returns-in-Stop : goal.returns-in-Stop
returns-in-Stop g c =
    let old = c.args.self.now in
    let new = c.tick.new.self in
    let t = c.args.moment in
    let d = ticks_at t (Err c.in-Err.fault) old new c.requires.late c.in-Err.ensures.ticks in
    record {
      moves = moves_ticks t (Err c.in-Err.fault) old new c.requires.late d;
      stop = tick_stops t c.in-Err.fault old new d (sym c.in-Stop.ensures);
      late = moves_late t old new c.requires.late (moves_ticks t (Err c.in-Err.fault) old new c.requires.late d);
      falls = tt;
      settled = tt;
      hands = d.place.hands;
      counts = tt;
      acts = tick_refused t c.in-Err.fault old new (tick_stops t c.in-Err.fault old new d (sym c.in-Stop.ensures)).0 d;
    }
