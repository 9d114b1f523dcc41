-- The end of participants' queues in a shutdown.
use Rattle.std.specs.Prelude.{◌≡◌, ◌≢◌, ◌⊎◌, ℕ, ◌+◌, ◌-◌, ◌<◌, ◌≤◌, ◌==◌, ◌&&◌, ◌||◌, if◌then◌else◌, nat_le, Bool, true, false, List, [], ◌∷◌, ◌++◌, length, slice_get, Some}
use Rattle.std.specs.List.{list_all}
use Rattle.std.specs.VecDeque.{deque_len}
use Rattle.intake_seats.specs.Given.{HandEnd}
use Rattle.outbound_queue.specs.declared.outgoing.Outgoing.{Outgoing}
use Rattle.outbound_queue.specs.declared.outgoing.Outgoing.TheVariants.{Cut}
use Rattle.outbound_queue.specs.declared.queue.Queue.{Queue}
use Rattle.venue_worker.specs.Work.{Work}
use Rattle.venue_worker.specs.Calls.{IsSameElse, with_queue, with_session}
use Rattle.venue_worker.specs.Turns.{AreServed, IsServed}

-- the sentinel, where a queue was cut
abbrev pub cut_token : Bool → Bool → List Outgoing
cut_token true is_cut = []
cut_token false false = []
cut_token false true = Cut ∷ []

-- What a participant was given stays. What waited for it, and then the sentinel if it was cut, was given next or waits;
-- one that was cut before stays so.
pub record IsSeenOff (q q' : Queue) (h h' : HandEnd Outgoing) : Type 0 where
  pub next : List Outgoing
  pub given : h'.given ≡ h.given ++ next
  pub waiting : next ++ q'.waiting.items ≡ q.waiting.items ++ cut_token q.is_cut q'.is_cut
  pub still : q.is_cut ≡ true → q'.is_cut ≡ true

abbrev pub AreDrained : Work → Work → Type 0
AreDrained old new = (j : ℕ) (q q' : Queue) (h h' : HandEnd Outgoing) → slice_get old.ledger.queues j ≡ Some q → slice_get new.ledger.queues j ≡ Some q' → slice_get old.hands j ≡ Some h → slice_get new.hands j ≡ Some h' → IsSeenOff q q' h h'

-- a participant's queue is as it was, or it was cut, with the sentinel after what waited
abbrev pub CutsServed : Work → Work → ℕ → Type 0
CutsServed old new j = (q q' : Queue) × (slice_get old.ledger.queues j ≡ Some q) × (new ≡ with_queue old j q') × (q'.waiting.items ≡ q.waiting.items ++ cut_token q.is_cut q'.is_cut) × (q.is_cut ≡ true → q'.is_cut ≡ true)

-- one participant is drained, and its seat is looked at where something waits after it
pub record SeesOff (j : ℕ) (old new : Work) : Type 0 where
  pub was : Queue
  pub had : HandEnd Outgoing
  pub is : Queue
  pub has : HandEnd Outgoing
  pub queue : slice_get old.ledger.queues j ≡ Some was
  pub hand : slice_get old.hands j ≡ Some had
  pub other : new ≡ with_session old j is has
  pub seen : IsSeenOff was is had has
  pub looks : had.looks ≤ has.looks
  pub served : is.waiting.items ≢ [] → IsServed is had has

-- the participants before the n-th were served
abbrev pub AreServedUpTo : ℕ → Work → Work → Type 0
AreServedUpTo n old new = (k : ℕ) (q' : Queue) (h h' : HandEnd Outgoing) → k < n → slice_get new.ledger.queues k ≡ Some q' → slice_get old.hands k ≡ Some h → slice_get new.hands k ≡ Some h' → q'.waiting.items ≢ [] → IsServed q' h h'

-- no reply seat was looked at less
abbrev pub AreLookedAt : Work → Work → Type 0
AreLookedAt old new = (k : ℕ) (h h' : HandEnd Outgoing) → slice_get old.hands k ≡ Some h → slice_get new.hands k ≡ Some h' → h.looks ≤ h'.looks

-- a participant was given its sentinel
abbrev pub is_shut_down : Queue → Bool
is_shut_down q = q.is_cut && (deque_len q.waiting == 0)

abbrev pub are_shut_down : List Queue → Bool
are_shut_down queues = list_all is_shut_down queues

-- nothing waits for a participant
abbrev pub is_idle : Queue → Bool
is_idle q = deque_len q.waiting == 0

-- whether a participant is cut after a round: one that was, and where the round may cut one for whom nothing waited
abbrev pub is_cut_after : Bool → Queue → Bool
is_cut_after may_cut q = q.is_cut || (may_cut && is_idle q)

-- a message was handed to a participant, or none was
abbrev pub Gives : Bool → HandEnd Outgoing → HandEnd Outgoing → Type 0
Gives true h h' = (x : Outgoing) × (h'.given ≡ h.given ++ x ∷ [])
Gives false h h' = h'.given ≡ h.given

-- a cut of a participant, where a round may cut and nothing waits for it
abbrev pub CutsWhere : Bool → Work → Work → ℕ → Type 0
CutsWhere may_cut old new j = (c : CutsServed old new j) × (c.1.is_cut ≡ is_cut_after may_cut c.0)

-- one participant in a round
pub record IsDrained (j : ℕ) (may_cut moved : Bool) (old new : Work) : Type 0 where
  pub sees : SeesOff j old new
  pub cut : sees.is.is_cut ≡ is_cut_after may_cut sees.was
  pub gives : Gives moved sees.had sees.has

-- who of the participants before the n-th is cut after a round
abbrev pub AreCutAfter : ℕ → Bool → Work → Work → Type 0
AreCutAfter n may_cut old new = (k : ℕ) (q q' : Queue) → k < n → slice_get old.ledger.queues k ≡ Some q → slice_get new.ledger.queues k ≡ Some q' → q'.is_cut ≡ is_cut_after may_cut q

-- nobody was handed anything
abbrev pub AreGivenNothing : Work → Work → Type 0
AreGivenNothing old new = (k : ℕ) (h h' : HandEnd Outgoing) → slice_get old.hands k ≡ Some h → slice_get new.hands k ≡ Some h' → h'.given ≡ h.given

-- one of the participants before the n-th was handed a message
pub record IsOneGiven (n : ℕ) (old new : Work) : Type 0 where
  pub k : ℕ
  pub low : k < n
  pub had : HandEnd Outgoing
  pub has : HandEnd Outgoing
  pub was : slice_get old.hands k ≡ Some had
  pub is : slice_get new.hands k ≡ Some has
  pub gives : Gives true had has

abbrev pub AreGiven : ℕ → Bool → Work → Work → Type 0
AreGiven n true old new = IsOneGiven n old new
AreGiven n false old new = AreGivenNothing old new

-- A round: each participant was drained and its reply seat served, who was cut, and whether a message was handed over.
pub record IsRound (may_cut moved : Bool) (old new : Work) : Type 0 where
  pub only : IsSameElse old new
  pub seen_off : AreDrained old new
  pub looked : AreLookedAt old new
  pub served : AreServed old new
  pub cuts : AreCutAfter (length old.hands) may_cut old new
  pub gives : AreGiven (length old.hands) moved old new

-- whether a shutdown is over, after this time without progress
abbrev pub is_over : ℕ → Work → Bool
is_over quiet w = nat_le 30000 quiet || are_shut_down w.ledger.queues

-- Rounds at these moments, from the moment of the last progress on to a later one, which is that of the last round that
-- handed a message over. A round may cut where half a second passed without progress; another follows only where it is
-- not over.
abbrev pub AreRounds : ℕ → List ℕ → ℕ → Work → Work → Type 0
AreRounds since [] since' old new = (since' ≡ since) × (new ≡ old)
AreRounds since (moment ∷ moments) since' old new =
    (moved : Bool) × (between : Work) × IsRound (nat_le 500 (moment - since)) moved old between × (moments ≢ [] → is_over (moment - (if moved then moment else since)) between ≡ false) × AreRounds (if moved then moment else since) moments since' between new

-- half a minute passed without progress until the last of these moments
abbrev pub HasWaited : ℕ → List ℕ → Type 0
HasWaited since moments = (moment : ℕ) × (before : List ℕ) × (moments ≡ before ++ moment ∷ []) × (since + 30000 ≤ moment)

-- The rounds of a shutdown, each after an answer of the clock, and one answer before them: as many as were given, or
-- fewer, where each participant was given its sentinel, or where half a minute passed without progress.
pub record HasShutDown (rounds : ℕ) (answered answered' : List ℕ) (old new : Work) : Type 0 where
  pub first : ℕ
  pub moments : List ℕ
  pub clock : answered' ≡ answered ++ first ∷ moments
  pub since : ℕ
  pub rounded : AreRounds first moments since old new
  pub count : (length moments ≡ rounds) ⊎ ((are_shut_down new.ledger.queues ≡ true) ⊎ HasWaited since moments)
