-- The acts of a run, turn by turn: each call of a turn, and the effect of a refusal.
use Rattle.std.specs.Prelude.{◌≡◌, ◌≢◌, ◌⊎◌, ℕ, zero, suc, ◌≤◌, ◌<◌, ◌%◌, ⊤, Bool, true, false, List, [], ◌∷◌, ◌++◌, length, replicate, max, slice_get, Some, Ok, Err}
use Rattle.std.specs.declared.result.Result.{Result}
use Rattle.intake_seats.specs.Given.{TakeEnd}
use Rattle.venue_rules.specs.declared.trail.EventFault.{EventFault}
use Rattle.venue_rules.specs.declared.trail.EventFault.TheVariants.{Behind, TrailRefused, Down, Due, NoMemory}
use Rattle.venue_worker.specs.Work.{Work}
use Rattle.venue_worker.specs.Calls.{Cuts, Delivers, Takes, Ticks}
use Rattle.venue_worker.specs.Shutdown.{AreGivenNothing, IsOneGiven}
use Rattle.venue_worker.specs.Turns.{with_had_refusal}

-- a tick at a moment that enters a side, and one that enters none; a look at a participant's seat, at a moment; a
-- delivery to a participant
pub data Act : Type 0 where
  Enters_at : ℕ → Act
  Ticks_at : ℕ → Act
  Looks_at : ℕ → ℕ → Act
  Delivers_to : ℕ → Act

-- The effect of a tick's or a look's result, but for the trail's refusal: `Behind`, and nothing else, has that
-- participant cut. A cut and an allocation failure are recorded as a refusal of the turn; a side is due only in a turn
-- that had one.
abbrev pub Follows : Result Bool EventFault → Work → Work → Type 0
Follows (Ok b) mid new = new ≡ mid
Follows (Err (Behind j)) mid new = (cut : Work) × Cuts mid cut j × (new ≡ with_had_refusal cut true)
Follows (Err NoMemory) mid new = new ≡ with_had_refusal mid true
Follows (Err Due) mid new = (mid.had_refusal ≡ true) × (new ≡ mid)
Follows (Err TrailRefused) mid new = ⊥
Follows (Err (Down j)) mid new = ⊥

-- an act of which the trail refused nothing
abbrev pub IsActOf : Act → Work → Work → Type 0
IsActOf (Enters_at t) old new = Ticks t (Ok true) old new
IsActOf (Ticks_at t) old new = (r : Result Bool EventFault) × (mid : Work) × (r ≢ Ok true) × Ticks t r old mid × Follows r mid new
IsActOf (Looks_at i t) old new = (r : Result Bool EventFault) × (mid : Work) × Takes i t r old mid × Follows r mid new
IsActOf (Delivers_to j) old new = (moved : Bool) × Delivers old new j moved

-- an act at which the trail refused
abbrev pub IsRefusedAt : Act → Work → Work → Type 0
IsRefusedAt (Enters_at t) old new = ⊥
IsRefusedAt (Ticks_at t) old new = Ticks t (Err TrailRefused) old new
IsRefusedAt (Looks_at i t) old new = Takes i t (Err TrailRefused) old new
IsRefusedAt (Delivers_to j) old new = ⊥

-- these acts, in order
abbrev pub AreActs : List Act → Work → Work → Type 0
AreActs [] old new = new ≡ old
AreActs (a ∷ acts) old new = (mid : Work) × IsActOf a old mid × AreActs acts mid new

-- a first part of these acts, and then the one at which the trail refused
abbrev pub AreCutShort : List Act → Work → Work → Type 0
AreCutShort [] old new = ⊥
AreCutShort (a ∷ acts) old new = IsRefusedAt a old new ⊎ ((mid : Work) × IsActOf a old mid × AreCutShort acts mid new)

-- all of these acts, or, where a fault is the result, those up to the trail's refusal
abbrev pub HasActed : {T : Type 0} → Result T EventFault → List Act → Work → Work → Type 0
HasActed (Ok u) acts old new = AreActs acts old new
HasActed (Err f) acts old new = AreCutShort acts old new

-- some ticks that enter a side, then one that enters none
abbrev pub ticks : ℕ → ℕ → List Act
ticks t entered = replicate entered (Enters_at t) ++ Ticks_at t ∷ []

-- a look at each of the first n seats, in order
abbrev pub looks : ℕ → ℕ → List Act
looks t zero = []
looks t (suc n) = looks t n ++ Looks_at n t ∷ []

-- a delivery to each of the first n participants, in order
abbrev pub deliveries : ℕ → List Act
deliveries zero = []
deliveries (suc n) = deliveries n ++ Delivers_to n ∷ []

-- The acts of one turn, which begins with no refusal yet: ticks until one enters no side, one look at each seat, one
-- delivery to each participant, in this order; the trail's refusal ends them. A moment earlier than the last counts as
-- the last.
abbrev pub HasTurnActed : {T : Type 0} → Result T EventFault → ℕ → Work → Work → Type 0
HasTurnActed result moment old new =
    let t = max old.ledger.last moment in
    (entered : ℕ) × HasActed result (ticks t entered ++ (looks t (length old.takes) ++ deliveries (length old.hands))) (with_had_refusal old false) new

-- what a turn found: a refusal, an input, or a message to hand over
abbrev pub HasFound : Work → Work → Type 0
HasFound old new = (new.had_refusal ≡ true) ⊎ ((old.ledger.count < new.ledger.count) ⊎ IsOneGiven (length old.hands) old new)

-- a turn that found nothing of these
pub record HasFoundNothing (old new : Work) : Type 0 where
  pub quiet : new.had_refusal ≡ false
  pub count : new.ledger.count ≡ old.ledger.count
  pub hands : AreGivenNothing old new

-- A look at the seat of a session's end token, which was not taken before: it was not there, or it was taken.
abbrev pub IsPolled : TakeEnd Unit → TakeEnd Unit → Type 0
IsPolled e e' = (e.taken ≡ []) × (e.looks < e'.looks) × (((e'.taken ≡ []) × (e'.last % 4 ≢ 2)) ⊎ ((length e'.taken ≡ 1) × (e'.last % 4 ≡ 2)))

-- each seat of an end token was looked at, where its token was not taken before, or is as it was
abbrev pub ArePolled : List (TakeEnd Unit) → List (TakeEnd Unit) → Type 0
ArePolled ends ends' = (length ends' ≡ length ends) × ((k : ℕ) (e e' : TakeEnd Unit) → slice_get ends k ≡ Some e → slice_get ends' k ≡ Some e' → (e' ≡ e) ⊎ IsPolled e e')

-- a session had not ended: its seat was looked at, and its end token was not there
pub record IsAwaited (ends ends' : List (TakeEnd Unit)) : Type 0 where
  pub k : ℕ
  pub had : TakeEnd Unit
  pub has : TakeEnd Unit
  pub was : slice_get ends k ≡ Some had
  pub is : slice_get ends' k ≡ Some has
  pub looked : had.looks < has.looks
  pub untaken : has.taken ≡ []
  pub absent : has.last % 4 ≢ 2

-- one turn with this result, and looks for the end tokens next to it, which come first by the code alone
pub record IsTurn (result : Result Unit EventFault) (moment : ℕ) (ends ends' : List (TakeEnd Unit)) (old new : Work) : Type 0 where
  pub acts : HasTurnActed result moment old new
  pub polled : ArePolled ends ends'

-- a turn that another follows: its trail refused nothing, and it found something, or a session had not ended
abbrev pub IsFollowed : List (TakeEnd Unit) → List (TakeEnd Unit) → Work → Work → Type 0
IsFollowed ends ends' old new = (new.ledger.refused ≡ old.ledger.refused) × (HasFound old new ⊎ IsAwaited ends ends')

-- the last turn of a run is such a one; another, with turns behind it, is followed
abbrev pub EndsOrGoesOn : (Work → Work → Type 0) → List ℕ → List (TakeEnd Unit) → List (TakeEnd Unit) → Work → Work → Type 0
EndsOrGoesOn Last [] ends ends' old new = Last old new
EndsOrGoesOn Last (moment ∷ moments) ends ends' old new = IsFollowed ends ends' old new

-- the result of a turn, with turns at these moments behind it: the last has the run's
abbrev pub turn_result : Result Unit EventFault → List ℕ → Result Unit EventFault
turn_result result [] = result
turn_result result (moment ∷ moments) = Ok tt

-- one turn at each of these moments, in order, and nothing else
abbrev pub AreTurns : Result Unit EventFault → (Work → Work → Type 0) → List ℕ → List (TakeEnd Unit) → List (TakeEnd Unit) → Work → Work → Type 0
AreTurns result Last [] ends ends' old new = (ends' ≡ ends) × (new ≡ old)
AreTurns result Last (moment ∷ moments) ends ends' old new =
    (looked : List (TakeEnd Unit)) × (mid : Work) × IsTurn (turn_result result moments) moment ends looked old mid × EndsOrGoesOn Last moments ends looked old mid × AreTurns result Last moments looked ends' mid new

-- the last turn of a run: the trail refused, or it was the last that was given, or it found nothing
abbrev pub IsLast : Result Unit EventFault → ℕ → List ℕ → Work → Work → Type 0
IsLast (Ok u) turns moments old new = (length moments ≡ turns) ⊎ HasFoundNothing old new
IsLast (Err f) turns moments old new = ⊤

-- a run's turns: at most those that were given, and none only where none was given, without a fault
pub record AreWithin (turns : ℕ) (result : Result Unit EventFault) (moments : List ℕ) : Type 0 where
  pub most : length moments ≤ turns
  pub none : moments ≡ [] → (turns ≡ 0) × (result ≡ Ok tt)

-- one turn at each moment that the clock answered
abbrev pub HasActedAt : ℕ → Result Unit EventFault → List ℕ → List ℕ → List (TakeEnd Unit) → List (TakeEnd Unit) → Work → Work → Type 0
HasActedAt turns result answered answered' ends ends' old new =
    (moments : List ℕ) × (answered' ≡ answered ++ moments) × AreWithin turns result moments × AreTurns result (IsLast result turns moments) moments ends ends' old new
