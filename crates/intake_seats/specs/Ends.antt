-- The views of a board's threads, and the two ends of a seat that contracts see.
use Rattle.std.specs.Prelude.{◌≡◌, ◌≢◌, ◌⊎◌, ℕ, zero, suc, ◌+◌, ◌*◌, ◌/◌, ◌%◌, ◌^◌, Bool, true, false, List, [], ◌∷◌, ◌++◌, map, length, slice_get, Option, None, Some}
use Rattle.std.specs.Option.{option_to_list}
use Rattle.atomic_table.specs.Seated.{TableId}
use Rattle.intake_seats.specs.declared.views.Hander.{Hander}
use Rattle.intake_seats.specs.declared.views.Taker.{Taker}
use Rattle.intake_seats.specs.declared.views.View.{View}
use Rattle.intake_seats.specs.Given.{HandEnd, TakeEnd}

-- a word that lets no message in: the seat is not empty, and one message more was given than the word counts; or it is
-- empty, and 2^60 were given
abbrev pub IsShut : {M : Type 0} → List M → ℕ → Type 0
IsShut given word = ((word % 4 ≢ 0) × (length given ≡ word / 4 + 1)) ⊎ ((word ≡ 4 * length given) × (length given ≡ 2 ^ 60))

-- what a taker has: the slot of its seat, emptied, while a message is in hand
abbrev pub carried : {M : Type 0} → ℕ → Bool → List (ℕ × Option M)
carried number false = []
carried number true = (number, None) ∷ []

module _ {M : Type 0} where
  abbrev pub new_hander : ℕ → Hander M
  new_hander number = record { number = number; given = []; claiming = false; last = 0; looks = 0 }

  abbrev pub new_taker : ℕ → Taker M
  new_taker number = record { number = number; taken = []; in_hand = None; last = 0; looks = 0 }

  abbrev pub first_hander : View M → Hander M
  first_hander v = go v.handers
    where
      go : List (Hander M) → Hander M
      go [] = new_hander 0
      go (h ∷ hs) = h

  abbrev pub first_taker : View M → Taker M
  first_taker v = go v.takers
    where
      go : List (Taker M) → Taker M
      go [] = new_taker 0
      go (t ∷ ts) = t

  -- what a contract sees of the end that a view has
  abbrev pub hand_end : TableId → View M → HandEnd M
  hand_end board v = record { board = board; number = (first_hander v).number; given = (first_hander v).given; last = (first_hander v).last; looks = (first_hander v).looks }

  abbrev pub take_end : TableId → View M → TakeEnd M
  take_end board v = record { board = board; number = (first_taker v).number; taken = (first_taker v).taken; in_hand = (first_taker v).in_hand; last = (first_taker v).last; looks = (first_taker v).looks }

  -- what the thread of an end knows between two calls
  abbrev pub resting_hander : HandEnd M → Hander M
  resting_hander e = record { number = e.number; given = e.given; claiming = false; last = e.last; looks = e.looks }

  abbrev pub resting_taker : TakeEnd M → Taker M
  resting_taker e = record { number = e.number; taken = e.taken; in_hand = e.in_hand; last = e.last; looks = e.looks }

  -- the view of a thread that has this end alone
  abbrev pub handing : HandEnd M → View M
  handing e = record { handers = resting_hander e ∷ []; takers = [] }

  abbrev pub taking : TakeEnd M → View M
  taking e = record { handers = []; takers = resting_taker e ∷ [] }

  abbrev pub IsSameHander : HandEnd M → HandEnd M → Type 0
  IsSameHander old new = (new.board ≡ old.board) × (new.number ≡ old.number)

  abbrev pub IsSameTaker : TakeEnd M → TakeEnd M → Type 0
  IsSameTaker old new = (new.board ≡ old.board) × (new.number ≡ old.number)

  -- the ends of this count of seats, from this number on
  abbrev pub new_handers : ℕ → ℕ → List (Hander M)
  new_handers from zero = []
  new_handers from (suc n) = new_hander from ∷ new_handers (suc from) n

  abbrev pub new_takers : ℕ → ℕ → List (Taker M)
  new_takers from zero = []
  new_takers from (suc n) = new_taker from ∷ new_takers (suc from) n

  -- the first view of a board has both ends of each seat
  abbrev pub opening_view : ℕ → View M
  opening_view n = record { handers = new_handers 0 n; takers = new_takers 0 n }

  -- the view that is left once each hander's end went to a thread of its own
  abbrev pub takers_alone : ℕ → View M
  takers_alone n = record { handers = []; takers = new_takers 0 n }

  -- the ends of a board's first n seats, as `Board::new` gives them
  abbrev pub new_hand : TableId → ℕ → HandEnd M
  new_hand board number = record { board = board; number = number; given = []; last = 0; looks = 0 }

  abbrev pub new_take : TableId → ℕ → TakeEnd M
  new_take board number = record { board = board; number = number; taken = []; in_hand = None; last = 0; looks = 0 }

  abbrev pub new_hands : TableId → ℕ → List (HandEnd M)
  new_hands board zero = []
  new_hands board (suc n) = new_hands board n ++ new_hand board n ∷ []

  abbrev pub new_takes : TableId → ℕ → List (TakeEnd M)
  new_takes board zero = []
  new_takes board (suc n) = new_takes board n ++ new_take board n ∷ []

  -- the handers' ends of a board, in the order of its seats
  abbrev pub AreHands : TableId → List (HandEnd M) → Type 0
  AreHands board hands = (length hands ≡ board.words) × ((k : ℕ) (h : HandEnd M) → slice_get hands k ≡ Some h → (h.board ≡ board) × (h.number ≡ k))

  -- the takers' ends, with nothing in hand
  abbrev pub AreTakes : TableId → List (TakeEnd M) → Type 0
  AreTakes board takes = (length takes ≡ board.words) × ((k : ℕ) (t : TakeEnd M) → slice_get takes k ≡ Some t → (t.board ≡ board) × (t.number ≡ k) × (t.in_hand ≡ None))

  -- ends that no call was made with
  abbrev pub AreUnusedHands : List (HandEnd M) → Type 0
  AreUnusedHands hands = (k : ℕ) (h : HandEnd M) → slice_get hands k ≡ Some h → (h.given ≡ []) × (h.last ≡ 0) × (h.looks ≡ 0)

  abbrev pub AreUnusedTakes : List (TakeEnd M) → Type 0
  AreUnusedTakes takes = (k : ℕ) (t : TakeEnd M) → slice_get takes k ≡ Some t → (t.taken ≡ []) × (t.last ≡ 0) × (t.looks ≡ 0)

  -- seat by seat, the messages given are those taken, then the one left
  abbrev pub IsLeft : List (HandEnd M) → List (TakeEnd M) → List (Option M) → Type 0
  IsLeft hands takes left = (k : ℕ) (h : HandEnd M) (t : TakeEnd M) (x : Option M) → slice_get hands k ≡ Some h → slice_get takes k ≡ Some t → slice_get left k ≡ Some x → h.given ≡ t.taken ++ option_to_list x

  abbrev pub with_handers : List (HandEnd M) → View M → View M
  with_handers hands v = record v { handers = map resting_hander hands ++ v.handers }

  abbrev pub with_takers : List (TakeEnd M) → View M → View M
  with_takers takes v = record v { takers = map resting_taker takes ++ v.takers }
