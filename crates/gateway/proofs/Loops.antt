-- Turns one after another.
use Rattle.std.proofs.Common.{◌≡◌, ℕ, zero, suc, ◌+◌, ◌<◌, ◌≤◌, List, [], ◌∷◌, ◌++◌, length, refl, ap, sym, subst, ◌∙◌, arith, append_assoc, length-append}
use Rattle.std.specs.Prelude.{Option, Some, None, MatchOption, Bool}
use Rattle.fix_session.specs.Reader.{Reader}
use Rattle.intake_seats.specs.Ends.{IsSameHander, IsSameTaker}
use Rattle.gateway.specs.declared.turn.CollectOutcome.{CollectOutcome}
use Rattle.gateway.specs.declared.turn.Work.{Work}
use Rattle.gateway.specs.Thread.{Thread, standing, runs, TurnRecord, IsTurn, WorksIf, Follow, IsCount, Loops, events_of, turn_events, before_work, worked_events, LookedAt, last_look, or_else, looked, tried, gates, moments}
use Rattle.gateway.proofs.Runs.{chained}

abbrev pub HasWork : Option Work → Type 0
HasWork None = ⊥
HasWork (Some work) = Unit {0}

-- none of these left out its work
abbrev pub AreWhole : List TurnRecord → Type 0
AreWhole [] = Unit {0}
AreWhole (turn_record ∷ turn_records) = HasWork turn_record.turn.work × AreWhole turn_records

-- one further answer
pub logged : {A : Type 0} (x y z more whole : List A) (answer : A) → z ≡ y ++ answer ∷ [] → y ≡ x ++ more → whole ≡ more ++ answer ∷ [] → z ≡ x ++ whole
logged x y z more whole answer first second third =
    first ∙ ap (λ ys. ys ++ answer ∷ []) second ∙ append_assoc x more (answer ∷ []) ∙ ap (λ ys. x ++ ys) (sym third)

pub length-more : (turn_records : List TurnRecord) (turn_record : TurnRecord) (n : ℕ) → length turn_records ≡ n → length (turn_records ++ turn_record ∷ []) ≡ n + 1
length-more turn_records turn_record n is = simp length-append (omega (arith, is))

pub follow-more : (r : Reader) (turn_records : List TurnRecord) (turn_record : TurnRecord) (a b c : Thread) → Follow r turn_records a b → IsTurn r turn_record b c → Follow r (turn_records ++ turn_record ∷ []) a c
follow-more r [] turn_record a b c here next = (c, subst (λ (t : Thread). IsTurn r turn_record t c) here next, refl)
follow-more r (m ∷ turn_records) turn_record a b c follows next = (follows.0, follows.1, follow-more r turn_records turn_record follows.0 b c follows.2 next)

pub whole-more : (turn_records : List TurnRecord) (turn_record : TurnRecord) → AreWhole turn_records → HasWork turn_record.turn.work → AreWhole (turn_records ++ turn_record ∷ [])
whole-more [] turn_record whole this = (this, tt)
whole-more (m ∷ turn_records) turn_record whole this = (whole.0, whole-more turn_records turn_record whole.1 this)

pub gates-more : (turn_records : List TurnRecord) (turn_record : TurnRecord) → gates (turn_records ++ turn_record ∷ []) ≡ gates turn_records ++ turn_record.turn.passed ∷ []
gates-more [] turn_record = refl
gates-more (m ∷ turn_records) turn_record = ap (λ (xs : List Bool). m.turn.passed ∷ xs) (gates-more turn_records turn_record)

pub moments-more : (turn_records : List TurnRecord) (turn_record : TurnRecord) → moments (turn_records ++ turn_record ∷ []) ≡ moments turn_records ++ turn_record.turn.moment ∷ []
moments-more [] turn_record = refl
moments-more (m ∷ turn_records) turn_record = ap (λ (xs : List ℕ). m.turn.moment ∷ xs) (moments-more turn_records turn_record)

worked_moves : (r : Reader) (turn_record : TurnRecord) (middle after : Thread) (work : Option Work) → WorksIf r turn_record middle after work →
    standing after ≡ runs r (worked_events turn_record.steps turn_record.turn.moment work) (standing middle)
worked_moves r turn_record middle after None same = ap standing same
worked_moves r turn_record middle after (Some work) works = works.moved

pub turn_moves : (r : Reader) (turn_record : TurnRecord) (before after : Thread) → IsTurn r turn_record before after → standing after ≡ runs r (turn_events turn_record) (standing before)
turn_moves r turn_record before after turns =
    chained r (standing before) (standing turns.middle) (standing after) (before_work turn_record.turn) (worked_events turn_record.steps turn_record.turn.moment turn_record.turn.work)
    turns.moved (worked_moves r turn_record turns.middle after turn_record.turn.work turns.worked)

pub follow_moves : (r : Reader) (turn_records : List TurnRecord) (before after : Thread) → Follow r turn_records before after → standing after ≡ runs r (events_of turn_records) (standing before)
follow_moves r [] before after here = ap standing here
follow_moves r (turn_record ∷ turn_records) before after follows =
    chained r (standing before) (standing follows.0) (standing after) (turn_events turn_record) (events_of turn_records)
    (turn_moves r turn_record before follows.0 follows.1) (follow_moves r turn_records follows.0 after follows.2)

pub take_same : (r : Reader) (turn_records : List TurnRecord) (before after : Thread) → Follow r turn_records before after → IsSameTaker before.take after.take
take_same r [] before after here = subst (λ (t : Thread). IsSameTaker before.take t.take) (sym here) (refl, refl)
take_same r (turn_record ∷ turn_records) before after follows =
    let first = follows.1.take in
    let rest = take_same r turn_records follows.0 after follows.2 in
    (rest.0 ∙ first.0, rest.1 ∙ first.1)

pub hand_same : (r : Reader) (turn_records : List TurnRecord) (before after : Thread) → Follow r turn_records before after → IsSameHander before.hand after.hand
hand_same r [] before after here = subst (λ (t : Thread). IsSameHander before.hand t.hand) (sym here) (refl, refl)
hand_same r (turn_record ∷ turn_records) before after follows =
    let first = follows.1.hand in
    let rest = hand_same r turn_records follows.0 after follows.2 in
    (rest.0 ∙ first.0, rest.1 ∙ first.1)

pub take_looks : (r : Reader) (turn_records : List TurnRecord) (before after : Thread) → Follow r turn_records before after → before.take.looks + looked turn_records ≤ after.take.looks
take_looks r [] before after here = rw here (omega arith)
take_looks r (turn_record ∷ turn_records) before after follows =
    let first = follows.1.take_looked in
    let rest = take_looks r turn_records follows.0 after follows.2 in
    omega arith

pub hand_looks : (r : Reader) (turn_records : List TurnRecord) (before after : Thread) → Follow r turn_records before after → before.hand.looks + tried turn_records ≤ after.hand.looks
hand_looks r [] before after here = rw here (omega arith)
hand_looks r (turn_record ∷ turn_records) before after follows =
    let first = follows.1.hand_looked in
    let rest = hand_looks r turn_records follows.0 after follows.2 in
    omega arith

looked_at : (c found : Option CollectOutcome) (before after : Thread) → LookedAt c after.take.last → (c ≡ None → after.take ≡ before.take) → LookedAt found before.take.last → LookedAt (or_else c found) after.take.last
looked_at None found before after this same earlier = rw (same refl) earlier
looked_at (Some c) found before after this same earlier = this

pub last_found : (r : Reader) (turn_records : List TurnRecord) (found : Option CollectOutcome) (before after : Thread) → Follow r turn_records before after → LookedAt found before.take.last → LookedAt (last_look found turn_records) after.take.last
last_found r [] found before after here earlier = rw here earlier
last_found r (turn_record ∷ turn_records) found before after follows earlier =
    let turns = follows.1 in
    last_found r turn_records (or_else turn_record.turn.collected found) follows.0 after follows.2 (looked_at turn_record.turn.collected found before follows.0 turns.found turns.unlooked earlier)

some_work : (turns : ℕ) (turn_records : List TurnRecord) (work : Option Work) → HasWork work → IsCount turns turn_records → MatchOption work (turn_records ≡ []) (λ _. IsCount turns turn_records)
some_work turns turn_records (Some work) some count = count
some_work turns turn_records None some count = absurd some

-- all turns were whole
pub whole_count : (turns : ℕ) (turn_records : List TurnRecord) → AreWhole turn_records → length turn_records ≡ turns → IsCount turns turn_records
whole_count zero [] whole is = tt
whole_count zero (turn_record ∷ turn_records) whole is = absurd (omega arith)
whole_count (suc n) [] whole is = absurd (omega arith)
whole_count (suc n) (turn_record ∷ turn_records) whole is = some_work n turn_records turn_record.turn.work whole.0 (whole_count n turn_records whole.1 (omega arith))

-- the last one left out its work
pub last_count : (turns : ℕ) (turn_records : List TurnRecord) (turn_record : TurnRecord) → AreWhole turn_records → length turn_records < turns → turn_record.turn.work ≡ None → IsCount turns (turn_records ++ turn_record ∷ [])
last_count zero turn_records turn_record whole below none = absurd (omega arith)
last_count (suc n) [] turn_record whole below none = rw none refl
last_count (suc n) (m ∷ turn_records) turn_record whole below none =
    some_work n (turn_records ++ turn_record ∷ []) m.turn.work whole.0 (last_count n turn_records turn_record whole.1 (omega arith) none)

pub loops : (r : Reader) (turns : ℕ) (turn_records : List TurnRecord) (before after : Thread) → Follow r turn_records before after → IsCount turns turn_records → Loops r turns turn_records before after
loops r turns turn_records before after follows count =
    record {
      follow = follows;
      count = count;
      moved = follow_moves r turn_records before after follows;
      take = take_same r turn_records before after follows;
      hand = hand_same r turn_records before after follows;
      take_looked = take_looks r turn_records before after follows;
      hand_looked = hand_looks r turn_records before after follows;
      found = last_found r turn_records None before after follows tt;
    }
