use Rattle.std.proofs.Common.{◌≡◌, ◌∙◌, Ok, Err, refl, sym, ap, subst}
use Rattle.venue_rules.specs.declared.trail.EventFault.{EventFault}
use Rattle.venue_rules.specs.declared.trail.EventFault.TheVariants.{Behind}
use Rattle.venue_worker.specs.Work.{Work}
use Rattle.venue_worker.specs.Calls.{Takes}
use Rattle.venue_worker.proofs.Moving.{moves_takes}
use Rattle.venue_worker.proofs.Refusals.{moves_late, take_due, fault_cut, take_unrefused, take_settles, take_others, take_done, take_behind, take_no_memory, take_named, take_stops, take_waits, met_settled, met_done, met_others, set_met, still_unmet, take_counts, take_undone, cut_count, cut_hands, met_hands, met_count}
use Rattle.venue_worker.proofs.Acting.{follows_wait, look_on, take_refused}
use Rattle.venue_worker.proofs.worker.Worker.take_or_retry.Goals as goal

pub returns-in-Ok : goal.returns-in-Ok
returns-in-Ok g c =
    let old = c.args.self.now in
    let new = c.look_at.new.self in
    let t = c.args.moment in
    let i = c.args.i in
    let b = c.in-Ok.taken in
    let d = c.in-Ok.ensures.takes in
    record {
      moves = moves_takes i t (Ok b) old new c.requires.late d;
      stop = take_unrefused i t b old new d;
      late = moves_late t old new c.requires.late (moves_takes i t (Ok b) old new c.requires.late d);
      settled = take_settles i t b old new c.messages_wait.ensures c.requires.delays c.look_at.ensures.kept d;
      others = take_others i t (Ok b) old new d;
      done = take_done i t b old new d;
      had_refusal = λ e. still_unmet old new d.place.had_refusal e;
      hands = d.place.hands;
      counts = take_counts i t b old new d;
      acts = (Ok b, new, d, refl);
    }

pub cut-requires : goal.cut-requires
cut-requires g c =
    let f = fault_cut c.in-Err.fault c.in-Cut.j (sym c.in-Cut.ensures) in
    record { named = take_named c.args.i c.args.moment c.in-Cut.j c.args.self.now c.look_at.new.self (subst (λ (z : EventFault). Takes c.args.i c.args.moment (Err z) c.args.self.now c.look_at.new.self) f c.in-Err.ensures.takes) }

pub returns-in-Cut : goal.returns-in-Cut
returns-in-Cut g c =
    let old = c.args.self.now in
    let mid = c.look_at.new.self in
    let new = c.note_refusal.new.self in
    let t = c.args.moment in
    let i = c.args.i in
    let f = fault_cut c.in-Err.fault c.in-Cut.j (sym c.in-Cut.ensures) in
    let d = c.in-Err.ensures.takes in
    let m = take_behind i t c.in-Cut.j old mid c.cut.new.self new c.requires.late (subst (λ (z : EventFault). Takes i t (Err z) old mid) f d) c.cut.ensures.cuts c.note_refusal.ensures in
    record {
      moves = m.0;
      stop = m.1;
      late = moves_late t old new c.requires.late m.0;
      settled = met_settled t c.cut.new.self new c.note_refusal.ensures;
      others = met_others i t (Err c.in-Err.fault) old mid new d m.2;
      done = met_done i t c.in-Err.fault old mid new d m.2 (ap (λ (w : Work). w.had_refusal) c.note_refusal.ensures);
      had_refusal = λ e. set_met c.cut.new.self new c.note_refusal.ensures e;
      hands = cut_hands c.in-Cut.j mid c.cut.new.self new c.cut.ensures.cuts c.note_refusal.ensures ∙ d.place.hands;
      counts = cut_count c.in-Cut.j mid c.cut.new.self new c.cut.ensures.cuts c.note_refusal.ensures ∙ take_undone i t c.in-Err.fault old mid d;
      acts = look_on i t (Behind c.in-Cut.j) old mid new (subst (λ (z : EventFault). Takes i t (Err z) old mid) f d) (c.cut.new.self, c.cut.ensures.cuts, c.note_refusal.ensures);
    }

pub returns-in-Wait : goal.returns-in-Wait
returns-in-Wait g c =
    let old = c.args.self.now in
    let mid = c.look_at.new.self in
    let new = c.note_refusal-in-Wait.new.self in
    let t = c.args.moment in
    let i = c.args.i in
    let d = c.in-Err.ensures.takes in
    let m = take_no_memory i t c.in-Err.fault old mid new c.requires.late d c.note_refusal-in-Wait.ensures (take_waits i t c.in-Err.fault old mid d (sym c.in-Wait.ensures)) in
    record {
      moves = m.0;
      stop = m.1;
      late = moves_late t old new c.requires.late m.0;
      settled = met_settled t mid new c.note_refusal-in-Wait.ensures;
      others = met_others i t (Err c.in-Err.fault) old mid new d m.2;
      done = met_done i t c.in-Err.fault old mid new d m.2 (ap (λ (w : Work). w.had_refusal) c.note_refusal-in-Wait.ensures);
      had_refusal = λ e. set_met mid new c.note_refusal-in-Wait.ensures e;
      hands = met_hands mid new c.note_refusal-in-Wait.ensures ∙ d.place.hands;
      counts = met_count mid new c.note_refusal-in-Wait.ensures ∙ take_undone i t c.in-Err.fault old mid d;
      acts = look_on i t c.in-Err.fault old mid new d (follows_wait c.in-Err.fault mid new (sym c.in-Wait.ensures) (take_due i t c.in-Err.fault old mid c.requires.settled c.look_at.ensures.kept d) c.note_refusal-in-Wait.ensures);
    }

pub returns-in-Stop : goal.returns-in-Stop
returns-in-Stop g c =
    let old = c.args.self.now in
    let new = c.look_at.new.self in
    let t = c.args.moment in
    let i = c.args.i in
    let d = c.in-Err.ensures.takes in
    record {
      moves = moves_takes i t (Err c.in-Err.fault) old new c.requires.late d;
      stop = take_stops i t c.in-Err.fault old new d (sym c.in-Stop.ensures);
      late = moves_late t old new c.requires.late (moves_takes i t (Err c.in-Err.fault) old new c.requires.late d);
      settled = tt;
      others = take_others i t (Err c.in-Err.fault) old new d;
      done = tt;
      had_refusal = λ e. still_unmet old new d.place.had_refusal e;
      hands = d.place.hands;
      counts = tt;
      acts = take_refused i t c.in-Err.fault old new (take_stops i t c.in-Err.fault old new d (sym c.in-Stop.ensures)).0 d;
    }
