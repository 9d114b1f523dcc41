-- A line that reported no fault took all that it was offered.
use Rattle.std.proofs.Common.{◌≡◌, ℕ, ◌+◌, List, [], ◌∷◌, ◌++◌, Bool, true, false, refl, ap, ◌∙◌, arith}
use Rattle.std.specs.Prelude.{max, if◌then◌else◌}
use Rattle.fix_dictionary.specs.declared.messages.Item.{Item}
use Rattle.fix_session.specs.Machine.{sent}
use Rattle.fix_session.specs.Reader.{Reader}
use Rattle.fix_session.specs.Table.{are_numbers_spent}
use Rattle.gateway.specs.declared.line.Accept.TheVariants as accept
use Rattle.gateway.specs.declared.piece.Given.TheVariants as gave
use Rattle.outbound_queue.specs.declared.outgoing.Outgoing.TheVariants.{Message, Cut}
use Rattle.gateway.specs.Said.{Accepted, Gave, Took, Broke_off, faults_in}
use Rattle.gateway.specs.Faults.{TookAll}
use Rattle.gateway.specs.Thread.{ThreadState, Event, Accepts, Collects, Writes, Breaks_off, Reads, Keeps, Repeats, Steps, Hands, Ticks, moves, runs, hands}
use Rattle.gateway.proofs.Memory.{faults_in-more}

-- the faults that the line reports in an event
abbrev emitted : Event → ℕ
emitted (Accepts accept.Fault t) = 1
emitted (Reads gave.Fault) = 1
emitted Breaks_off = 1
emitted e = 0

abbrev all_emitted : List Event → ℕ
all_emitted [] = 0
all_emitted (e ∷ events) = emitted e + all_emitted events

nothing_emitted : (s : ThreadState) → faults_in s.said ≡ faults_in s.said + 0
nothing_emitted s = omega arith

said_if : (b : Bool) (s x y : ThreadState) → x.said ≡ s.said → y.said ≡ s.said → (if b then x else y).said ≡ s.said
said_if true s x y p q = p
said_if false s x y p q = q

hands_said : (s : ThreadState) (ready : List Item) → (hands s ready).said ≡ s.said
hands_said s [] = refl
hands_said s (x ∷ rest) = refl

unsaid : (s new : ThreadState) → new.said ≡ s.said → faults_in new.said ≡ faults_in s.said + 0
unsaid s new is = ap faults_in is ∙ nothing_emitted s

event_emitted : (r : Reader) (s : ThreadState) (e : Event) → faults_in (moves r s e).said ≡ faults_in s.said + emitted e
event_emitted r s (Accepts accept.Up t) = faults_in-more s.said (Accepted accept.Up)
event_emitted r s (Accepts accept.Quiet t) = faults_in-more s.said (Accepted accept.Quiet)
event_emitted r s (Accepts accept.Over t) = faults_in-more s.said (Accepted accept.Over)
event_emitted r s (Accepts accept.Fault t) = faults_in-more s.said (Accepted accept.Fault)
event_emitted r s (Collects (Message app) t) = unsaid s (moves r s (Collects (Message app) t))
    (said_if (are_numbers_spent s.session) s s (record s { session = sent s.session app (max s.session.line.moment t); collected = s.collected ++ Message app ∷ [] }) refl refl)
event_emitted r s (Collects Cut t) = nothing_emitted s
event_emitted r s Writes = faults_in-more s.said (Took s.session.wire)
event_emitted r s Breaks_off = faults_in-more s.said (Broke_off s.session.wire)
event_emitted r s (Reads (gave.Got piece)) = faults_in-more s.said (Gave (gave.Got piece))
event_emitted r s (Reads gave.Quiet) = faults_in-more s.said (Gave gave.Quiet)
event_emitted r s (Reads gave.Ended) = faults_in-more s.said (Gave gave.Ended)
event_emitted r s (Reads gave.Fault) = faults_in-more s.said (Gave gave.Fault)
event_emitted r s (Keeps piece) = faults_in-more s.said (Gave (gave.Got piece))
event_emitted r s (Repeats piece) = nothing_emitted s
event_emitted r s (Steps t) = nothing_emitted s
event_emitted r s Hands = unsaid s (hands s s.session.ready) (hands_said s s.session.ready)
event_emitted r s (Ticks t) = nothing_emitted s

run_emitted : (r : Reader) (events : List Event) (s : ThreadState) → faults_in (runs r events s).said ≡ faults_in s.said + all_emitted events
run_emitted r [] s = nothing_emitted s
run_emitted r (e ∷ events) s = omega (arith, run_emitted r events (moves r s e), event_emitted r s e)

none_broke : (events : List Event) → all_emitted events ≡ 0 → TookAll events
none_broke [] none = tt
none_broke (Accepts answer t ∷ events) none = none_broke events (omega (arith, none))
none_broke (Collects owed t ∷ events) none = none_broke events (omega (arith, none))
none_broke (Writes ∷ events) none = none_broke events (omega (arith, none))
none_broke (Breaks_off ∷ events) none = absurd (omega (arith, none))
none_broke (Reads given ∷ events) none = none_broke events (omega (arith, none))
none_broke (Keeps piece ∷ events) none = none_broke events (omega (arith, none))
none_broke (Repeats piece ∷ events) none = none_broke events (omega (arith, none))
none_broke (Steps t ∷ events) none = none_broke events (omega (arith, none))
none_broke (Hands ∷ events) none = none_broke events (omega (arith, none))
none_broke (Ticks t ∷ events) none = none_broke events (omega (arith, none))

pub took_all : (r : Reader) (events : List Event) (s : ThreadState) → faults_in (runs r events s).said ≡ faults_in s.said → TookAll events
took_all r events s same = none_broke events (omega (arith, run_emitted r events s, same))
