-- Consequences of the answer of a step.
use Rattle.std.proofs.Common.{◌≡◌, ℕ, zero, suc, ◌+◌, ◌∙◌, ap, ◌<◌, List, length, Bool, true, false, refl, sym, subst, arith}
use Rattle.std.specs.Prelude.{max, not, ◌||◌, if◌then◌else◌, Option, Some, None, IfSome, IfNone, IsSome, Result, Ok, Err, OnErr}
use Rattle.fix_session.specs.declared.plan.Step.{Step}
use Rattle.fix_session.specs.declared.plan.Step.TheVariants.{Idle, Did, App, Dropped}
use Rattle.fix_session.specs.State.{State}
use Rattle.fix_session.specs.Machine as session
use Rattle.fix_session.specs.Machine.{AtEnd, HasFrame}
use Rattle.fix_session.specs.Reader.{Reader}
use Rattle.fix_session.specs.Shorter.{Shortens}
use Rattle.gateway.specs.declared.stepping.StepsEnd.{StepsEnd}
use Rattle.gateway.specs.declared.stepping.StepsEnd.TheVariants as ends
use Rattle.fix_session.specs.declared.frame.Fault.{Fault}
use Rattle.gateway.specs.declared.turn.TickOutcome.{TickOutcome}
use Rattle.gateway.specs.declared.turn.TickOutcome.TheVariants as ticked
use Rattle.gateway.specs.Steps.{StepEmits, Settled, GoOn, HasEnded, IsAnswer, AnswersAt, count_of, end_in, end_of, fault_in, is_past_logon, stepped}
use Rattle.gateway.specs.Thread.{ThreadState, Thread, AnswersTick, after_tick, outcome_of, runs, standing, steps_at, tick_events, tick_in}

emits_of : (r : Reader) (s new : State) (answer : Step) → AtEnd r new answer → new.line.up ≡ session.stays_up answer → Shortens answer (length s.unread) (length new.unread) → StepEmits r s new answer
emits_of r s new Idle end up fewer = end
emits_of r s new (Dropped why) end up fewer = up
emits_of r s new Did end up fewer = fewer
emits_of r s new (App n) end up fewer = fewer

abbrev IsAtEnd : Reader → State → State × Step → Type 0
IsAtEnd r s out = AtEnd r out.0 out.1

abbrev Shorter : State → State × Step → Type 0
Shorter s out = Shortens out.1 (length s.unread) (length out.0.unread)

abbrev pub Emits : Reader → State → State × Step → Type 0
Emits r s out = StepEmits r s out.0 out.1

abbrev step_by : Reader → State → ℕ → Bool → Option (List ℕ × List ℕ) → State × Step
step_by r s t up found = if up then session.step_on r s (max s.line.moment t) found else (session.moved s (max s.line.moment t), Idle)

emits_by : (r : Reader) (s : State) (t : ℕ) (up : Bool) (found : Option (List ℕ × List ℕ)) → IsAtEnd r s (step_by r s t up found) → Shorter s (step_by r s t up found) → Emits r s (step_by r s t up found)
emits_by r s t false found end shorter = end
emits_by r s t true None end shorter = end
emits_by r s t true (Some found) end shorter =
    let out = step_by r s t true (Some found) in
    emits_of r s out.0 out.1 end refl shorter

pub step_emits : (r : Reader) → ((s : State) (t : ℕ) → IsAtEnd r s (session.step r s t)) → ((s : State) (t : ℕ) → Shorter s (session.step r s t)) → (s : State) (t : ℕ) → Emits r s (session.step r s t)
step_emits r law shorter s t = emits_by r s t s.line.up (r.front s.unread).found (law s t) (shorter s t)

pub stepped-more : (r : Reader) (n t : ℕ) (s : State) → stepped r (suc n) t s ≡ (session.step r (stepped r n t s) t).0
stepped-more r zero t s = refl
stepped-more r (suc n) t s = stepped-more r n t (session.step r s t).0

-- one further step
pub one_more : (r : Reader) (a b c : State) (n t : ℕ) → b ≡ stepped r n t a → c ≡ (session.step r b t).0 → c ≡ stepped r (suc n) t a
one_more r a b c n t first second = second ∙ ap (λ (s : State). (session.step r s t).0) first ∙ sym (stepped-more r n t a)

-- the steps of a thread are those of its session
pub steps_run : (r : Reader) (n t : ℕ) (s : ThreadState) → runs r (steps_at n t) s ≡ record s { session = stepped r n t s.session }
steps_run r zero t s = refl
steps_run r (suc n) t s = steps_run r n t (record s { session = (session.step r s.session t).0 })

pub steps_lead : (r : Reader) (n t : ℕ) (s : ThreadState) (new : State) → new ≡ stepped r n t s.session → record s { session = new } ≡ runs r (steps_at n t) s
steps_lead r n t s new is = ap (λ (x : State). record s { session = x }) is ∙ sym (steps_run r n t s)

-- the meaning of a step, by the session's laws of steps
pub emitted : (r : Reader) → ((s : State) (t : ℕ) → IsAtEnd r s (session.step r s t)) → ((s : State) (t : ℕ) → Shorter s (session.step r s t)) →
    (s new : State) (t : ℕ) (answer : Step) → new ≡ (session.step r s t).0 → answer ≡ (session.step r s t).1 → StepEmits r s new answer
emitted r law shorter s new t answer new_is answer_is =
    subst (λ (x : Step). StepEmits r s new x) (sym answer_is)
    (subst (λ (n : State). StepEmits r s n (session.step r s t).1) (sym new_is) (step_emits r law shorter s t))

-- a step that goes on, behind others that do
pub goes_on : (a b c : State) (n t : ℕ) → ((r : Reader) → (b ≡ stepped r n t a) × GoOn r n t a) → ((r : Reader) → c ≡ stepped r 1 t b) → ((r : Reader) → end_in r t b ≡ None) →
    (steps : ℕ) × ((r : Reader) → (c ≡ stepped r steps t a) × GoOn r steps t a)
goes_on a b c n t first second answer = (
  suc n,
  λ (r : Reader). (one_more r a b c n t (first r).0 (second r), ((first r).1, subst (λ (x : State). end_in r t x ≡ None) (first r).0 (answer r))),
)

-- steps that go on, and then one that ends so
ended : (r : Reader) (steps n t : ℕ) (a b : State) (end : StepsEnd) → steps ≡ n + count_of (Some end) → b ≡ stepped r n t a → GoOn r n t a → AnswersAt r t b end → HasEnded r steps t a end
ended r steps n t a b end count is goes answer = (n, count, goes, subst (λ (x : State). AnswersAt r t x end) is answer)

pub ends_with : (end : StepsEnd) (a b c : State) (n t : ℕ) → ((r : Reader) → (b ≡ stepped r n t a) × GoOn r n t a) → ((r : Reader) → c ≡ stepped r (count_of (Some end)) t b) → ((r : Reader) → AnswersAt r t b end) →
    (steps : ℕ) × ((r : Reader) → (c ≡ stepped r steps t a) × HasEnded r steps t a end)
ends_with ends.Refused a b c n t first second answer =
    (n, λ (r : Reader). (second r ∙ (first r).0, ended r n n t a b ends.Refused (let e : n ≡ n + 0 = omega arith in e) (first r).0 (first r).1 (answer r)))
ends_with ends.Idle a b c n t first second answer =
    (suc n, λ (r : Reader). (one_more r a b c n t (first r).0 (second r), ended r (suc n) n t a b ends.Idle (let e : suc n ≡ n + 1 = omega arith in e) (first r).0 (first r).1 (answer r)))
ends_with (ends.Dropped why on fault) a b c n t first second answer = (
  suc n,
  λ (r : Reader). (one_more r a b c n t (first r).0 (second r), ended r (suc n) n t a b (ends.Dropped why on fault) (let e : suc n ≡ n + 1 = omega arith in e) (first r).0 (first r).1 (answer r)),
)

-- the same of a thread whose parts these are
pub steps_lead_from : (r : Reader) (n t : ℕ) (now inside : Thread) (new : State) → inside ≡ now → new ≡ stepped r n t inside.session →
    record (standing inside) { session = new } ≡ runs r (steps_at n t) (standing now)
steps_lead_from r n t now inside new view is =
    subst (λ (thread : Thread). record (standing inside) { session = new } ≡ runs r (steps_at n t) (standing thread)) view
    (steps_lead r n t (standing inside) new is)

-- a tick of a thread whose parts these are
pub tick_leads_from : (r : Reader) (t : ℕ) (x : TickOutcome) (now inside : Thread) (new : State) → inside ≡ now → new ≡ after_tick t inside.session x →
    record (standing inside) { session = new } ≡ runs r (tick_events t x) (standing now)
tick_leads_from r t ticked.Refused now inside new view is =
    subst (λ (thread : Thread). record (standing inside) { session = new } ≡ standing thread) view (ap (λ (s : State). record (standing inside) { session = s }) is)
tick_leads_from r t ticked.Done now inside new view is =
    subst (λ (thread : Thread). record (standing inside) { session = new } ≡ runs r (tick_events t ticked.Done) (standing thread)) view
    (ap (λ (s : State). record (standing inside) { session = s }) is)
tick_leads_from r t (ticked.Dropped why on) now inside new view is =
    subst (λ (thread : Thread). record (standing inside) { session = new } ≡ runs r (tick_events t (ticked.Dropped why on)) (standing thread)) view
    (ap (λ (s : State). record (standing inside) { session = s }) is)

-- a tick that gave this answer
pub ticked_to : (t : ℕ) (s new : State) (on : Bool) (answer : Step) (x : TickOutcome) → x ≡ outcome_of on answer → new ≡ (session.tick s t).0 → new ≡ after_tick t s x
ticked_to t s new on Idle x is new_is = rw is new_is
ticked_to t s new on (Dropped why) x is new_is = rw is new_is
ticked_to t s new on Did x is new_is = rw is new_is
ticked_to t s new on (App n) x is new_is = rw is new_is

-- no answer of a tick is a refusal
never_refused : (on : Bool) (answer : Step) → ticked.Refused ≡ outcome_of on answer → ⊥
never_refused on Idle is = cc
never_refused on (Dropped why) is = cc
never_refused on Did is = cc
never_refused on (App n) is = cc

answers_tick : (t : ℕ) (s : State) (x : TickOutcome) → x ≡ tick_in t s → AnswersTick t s x
answers_tick t s ticked.Refused is = absurd (never_refused s.line.logged_on (session.tick s t).1 is)
answers_tick t s ticked.Done is = sym is
answers_tick t s (ticked.Dropped why on) is = sym is

pub tick_answers : (t : ℕ) (s : State) (on : Bool) (answer : Step) (x : TickOutcome) → x ≡ outcome_of on answer → answer ≡ (session.tick s t).1 → on ≡ s.line.logged_on → AnswersTick t s x
tick_answers t s on answer x is answer_is on_is =
    answers_tick t s x (is ∙ ap (λ (b : Bool). outcome_of b answer) on_is ∙ ap (λ (a : Step). outcome_of s.line.logged_on a) answer_is)

-- a step that was not refused is one
pub counts_once : (on : Bool) (fault : Option Fault) (answer : Step) (end : Option StepsEnd) → end ≡ end_of on fault answer → count_of end ≡ 1
counts_once on fault Idle end is = rw is refl
counts_once on fault (Dropped why) end is = rw is refl
counts_once on fault Did end is = rw is refl
counts_once on fault (App n) end is = rw is refl

pub settles : (r : Reader) (s new : State) (on : Bool) (fault : Option Fault) (answer : Step) (end : Option StepsEnd) → end ≡ end_of on fault answer → StepEmits r s new answer → IfSome end (λ (e : StepsEnd). Settled r e new)
settles r s new on fault Idle end is emits = rw is emits
settles r s new on fault (Dropped why) end is emits = rw is emits
settles r s new on fault Did end is emits = rw is tt
settles r s new on fault (App n) end is emits = rw is tt

pub shortens : (r : Reader) (s new : State) (on : Bool) (fault : Option Fault) (answer : Step) (end : Option StepsEnd) → end ≡ end_of on fault answer → StepEmits r s new answer → IfNone end (length new.unread < length s.unread)
shortens r s new on fault Idle end is emits = rw is tt
shortens r s new on fault (Dropped why) end is emits = rw is tt
shortens r s new on fault Did end is emits = rw is emits
shortens r s new on fault (App n) end is emits = rw is emits

-- no answer of a step is a refusal
never_refuses : (on : Bool) (fault : Option Fault) (answer : Step) → Some ends.Refused ≡ end_of on fault answer → ⊥
never_refuses on fault Idle is = cc
never_refuses on fault (Dropped why) is = cc
never_refuses on fault Did is = cc
never_refuses on fault (App n) is = cc

-- a line on which a Logon is expected is up
is_up_before : (up on : Bool) → (not up || on) ≡ false → up ≡ true
is_up_before true on is = refl
is_up_before false on is = cc

-- a look at the next frame that failed found one on an up line
pub frame_at : {E : Type 0} (r : Reader) (s : State) (past : Bool) (result : Result (Option Fault) E) → past ≡ is_past_logon s.line → OnErr result (past ≡ false) → OnErr result (IsSome (r.front s.unread).found) → OnErr result (HasFrame r s)
frame_at r s past (Ok fault) is expected frame = tt
frame_at r s past (Err error) is expected frame = (is_up_before s.line.up s.line.logged_on (sym is ∙ expected), frame)

-- the end of the steps with a step is what the state machine answered
is_answer : (r : Reader) (t : ℕ) (s : State) (end : Option StepsEnd) → end ≡ end_in r t s → IsAnswer r t s end
is_answer r t s None is = sym is
is_answer r t s (Some ends.Idle) is = sym is
is_answer r t s (Some (ends.Dropped why on fault)) is = sym is
is_answer r t s (Some ends.Refused) is = absurd (never_refuses s.line.logged_on (fault_in r s) (session.step r s t).1 is)

pub answers : (r : Reader) (t : ℕ) (s : State) (on : Bool) (fault : Option Fault) (answer : Step) (end : Option StepsEnd) → end ≡ end_of on fault answer → answer ≡ (session.step r s t).1 → on ≡ s.line.logged_on → fault ≡ fault_in r s → IsAnswer r t s end
answers r t s on fault answer end is answer_is on_is fault_is =
    is_answer r t s end
    (is ∙ ap (λ (b : Bool). end_of b fault answer) on_is ∙ ap (λ (f : Option Fault). end_of s.line.logged_on f answer) fault_is
    ∙ ap (λ (a : Step). end_of s.line.logged_on (fault_in r s) a) answer_is)
