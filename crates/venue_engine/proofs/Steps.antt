-- The effect of the engine's parts on its model.
use Rattle.std.proofs.Common.{◌≡◌, ℕ, ◌+◌, ◌≤◌, Bool, true, false, List, [], ◌∷◌, ◌++◌, length, length-append, sym, ap, ◌∙◌, subst, max, Result, Ok, Err}
use Rattle.std.specs.Prelude.{IfErr, OnOk}
use Rattle.venue_rules.specs.declared.trail.EventFault.{EventFault}
use Rattle.venue_rules.specs.declared.trail.EventFault.TheVariants.{Behind, TrailRefused, Down, Due, NoMemory}
use Rattle.venue_rules.specs.declared.trail.TrailRow.{TrailRow}
use Rattle.venue_rules.specs.Run.{Input, row}
use Rattle.venue_core.specs.State.{State}
use Rattle.venue_core.specs.Taking.{IsSame}
use Rattle.outbound_queue.specs.declared.queue.Queue.{Queue}
use Rattle.venue_engine.specs.Inner.{AreRows, IsHindered, IsPosted}
use Rattle.venue_engine.specs.Ledger.{Ledger, ledger}
use Rattle.venue_engine.specs.Outbox.{all_waits}
use Rattle.venue_engine.specs.Queued.{AreFew}
use Rattle.venue_engine.specs.Step.{IsAnswered, IsDone, IsDue, IsRefused, HasAnswered, IsUnanswered, IsUndone, IsUntimely}
use Rattle.venue_engine.proofs.Each.{first_each, none_each, queued_each, same_each}
use Rattle.venue_engine.proofs.Few.{few_queued, few_same}

pub answered_by_parts : (i : Input) (rows rows' : List TrailRow) (clean clean' : Bool) (refused refused' : ℕ) (v v' : State) (qs qs' : List Queue) (begun count count' last last' : ℕ)
    → IsPosted i v v' (all_waits qs) (all_waits qs') → AreRows i rows rows' clean' count count' → (clean ≡ true → length rows ≡ count) → (clean' ≡ true → clean ≡ true)
    → IsAnswered i (ledger rows clean refused v qs begun count last) (ledger rows' clean' refused' v' qs' begun count' last')
answered_by_parts i rows rows' clean clean' refused refused' v v' qs qs' begun count count' last last' p r counted cleans = record {
  answer = p.answer;
  answers = p.takes.answers;
  none_behind = none_each p.answer.replies qs p.none_behind;
  goes = p.takes.goes;
  recorded = λ c. r.0 c ∙ ap (λ (n : ℕ). rows ++ row (n + 1) i ∷ []) (sym (counted (cleans c)));
  counted = r.1;
  queued = queued_each p.answer.replies qs qs' p.queued;
}

pub few_by_parts : (i : Input) (v v' : State) (qs qs' : List Queue) → IsPosted i v v' (all_waits qs) (all_waits qs') → AreFew qs → AreFew qs'
few_by_parts i v v' qs qs' p few = few_queued p.answer.replies qs qs' (none_each p.answer.replies qs p.none_behind) (queued_each p.answer.replies qs qs' p.queued) few

pub long_by_parts : (i : Input) (v v' : State) (qs qs' : List Queue) → IsPosted i v v' (all_waits qs) (all_waits qs') → length qs ≤ 32 → length qs' ≤ 32
long_by_parts i v v' qs qs' p low = subst (λ (n : ℕ). n ≤ 32) (sym (queued_each p.answer.replies qs qs' p.queued).0) low

pub few_still : (qs qs' : List Queue) → all_waits qs' ≡ all_waits qs → AreFew qs → AreFew qs'
few_still qs qs' e few = few_same qs qs' (same_each qs qs' e) few

pub long_still : (qs qs' : List Queue) → all_waits qs' ≡ all_waits qs → length qs ≤ 32 → length qs' ≤ 32
long_still qs qs' e low = subst (λ (n : ℕ). n ≤ 32) (sym (same_each qs qs' e).0) low

-- the count of rows, where one was recorded, or none
pub counted_more : (i : Input) (rows rows' : List TrailRow) (clean clean' : Bool) (count count' : ℕ) → AreRows i rows rows' clean' count count' → (clean ≡ true → length rows ≡ count) → (clean' ≡ true → clean ≡ true) → clean' ≡ true → length rows' ≡ count'
counted_more i rows rows' clean clean' count count' r counted cleans c = ap length (r.0 c) ∙ length-append rows (row (count + 1) i ∷ []) ∙ ap (λ (n : ℕ). n + 1) (counted (cleans c)) ∙ sym r.1

pub counted_still : (rows rows' : List TrailRow) (clean clean' : Bool) (count count' : ℕ) → (clean' ≡ true → rows' ≡ rows) → count' ≡ count → (clean ≡ true → length rows ≡ count) → (clean' ≡ true → clean ≡ true) → clean' ≡ true → length rows' ≡ count'
counted_still rows rows' clean clean' count count' same still counted cleans c = ap length (same c) ∙ counted (cleans c) ∙ sym still

pub unanswered_by_parts : (rows rows' : List TrailRow) (clean clean' : Bool) (refused refused' : ℕ) (v v' : State) (qs qs' : List Queue) (begun count count' last last' : ℕ)
    → IsSame v v' → (clean' ≡ true → rows' ≡ rows) → count' ≡ count → all_waits qs' ≡ all_waits qs → IsUnanswered (ledger rows clean refused v qs begun count last) (ledger rows' clean' refused' v' qs' begun count' last')
unanswered_by_parts rows rows' clean clean' refused refused' v v' qs qs' begun count count' last last' same still counted waits = record { stands = same.day; rows = still; count = counted; queues = same_each qs qs' waits }

pub refused_by_parts : (i : Input) (rows rows' : List TrailRow) (clean clean' : Bool) (refused refused' : ℕ) (v v' : State) (qs qs' : List Queue) (begun count count' last last' : ℕ) (fault : EventFault)
    → IsHindered i v (all_waits qs) refused refused' fault → IsRefused i (ledger rows clean refused v qs begun count last) (ledger rows' clean' refused' v' qs' begun count' last') fault
refused_by_parts i rows rows' clean clean' refused refused' v v' qs qs' begun count count' last last' (Behind who) h = (record { answer = h.0.answer; answers = h.0.answers; first = first_each h.0.answer.replies qs who h.0.first }, h.1)
refused_by_parts i rows rows' clean clean' refused refused' v v' qs qs' begun count count' last last' TrailRefused h = (record { answer = h.0.answer; answers = h.0.answers; none = none_each h.0.answer.replies qs h.0.first }, h.1)
refused_by_parts i rows rows' clean clean' refused refused' v v' qs qs' begun count count' last last' NoMemory h = h
refused_by_parts i rows rows' clean clean' refused refused' v v' qs qs' begun count count' last last' Due h = absurd h
refused_by_parts i rows rows' clean clean' refused refused' v v' qs qs' begun count count' last last' (Down who) h = absurd h

-- a call of `answer` where no side is due
pub answered_undone : (i : Input) (t : ℕ) (old new : Ledger) (fault : EventFault) → IsUndone i t false fault old new → HasAnswered i t old new (Err fault)
answered_undone i t old new (Behind who) u = u
answered_undone i t old new TrailRefused u = u
answered_undone i t old new NoMemory u = u
answered_undone i t old new Due u = absurd u.refused
answered_undone i t old new (Down who) u = absurd u.refused

pub answered_by : (r : Result (Unit {0}) EventFault) (i : Input) (t : ℕ) (old new : Ledger) → OnOk r (IsDone i t false old new) → IfErr r (λ fault. IsUndone i t false fault old new) → HasAnswered i t old new r
answered_by (Ok u) i t old new d f = d
answered_by (Err fault) i t old new d f = answered_undone i t old new fault f

-- facts of the parts, as facts of the model

pub done_seen : (f : ℕ → Input) (b : Bool) (x y : ℕ) (old new seen : Ledger) → old ≡ seen → x ≡ max old.last y → IsDone (f x) x b old new → IsDone (f (max seen.last y)) (max seen.last y) b seen new
done_seen f b x y old new seen same e d = subst (λ (l : Ledger). IsDone (f (max l.last y)) (max l.last y) b l new) same (subst (λ (n : ℕ). IsDone (f n) n b old new) e d)

pub undone_seen : (f : ℕ → Input) (b : Bool) (x y : ℕ) (fault : EventFault) (old new seen : Ledger) → old ≡ seen → x ≡ max old.last y → IsUndone (f x) x b fault old new → IsUndone (f (max seen.last y)) (max seen.last y) b fault seen new
undone_seen f b x y fault old new seen same e d = subst (λ (l : Ledger). IsUndone (f (max l.last y)) (max l.last y) b fault l new) same (subst (λ (n : ℕ). IsUndone (f n) n b fault old new) e d)

pub untimely_seen : (x y : ℕ) (old new seen : Ledger) → old ≡ seen → x ≡ max old.last y → IsUntimely x old new → IsUntimely (max seen.last y) seen new
untimely_seen x y old new seen same e d = subst (λ (l : Ledger). IsUntimely (max l.last y) l new) same (subst (λ (n : ℕ). IsUntimely n old new) e d)

pub due_inside : (b : Bool) (x y : ℕ) (old seen : Ledger) → old ≡ seen → x ≡ max old.last y → IsDue seen.stands (max seen.last y) b → IsDue old.stands x b
due_inside b x y old seen same e d = subst (λ (n : ℕ). IsDue old.stands n b) (sym e) (subst (λ (l : Ledger). IsDue l.stands (max l.last y) b) (sym same) d)
