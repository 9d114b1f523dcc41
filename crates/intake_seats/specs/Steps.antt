-- What each step on the board says to its thread: the view and the slots before, the word found, and the view and the
-- slots after.
use Rattle.std.specs.Prelude.{◌≡◌, ◌≢◌, ℕ, ◌+◌, ◌*◌, ◌/◌, ◌%◌, ◌^◌, ◌≤◌, true, false, List, [], ◌∷◌, ◌++◌, map, length, Option, None, Some}
use Rattle.atomic_table.specs.Table.{Me, Step, rest}
use Rattle.intake_seats.specs.declared.views.Hander.{Hander}
use Rattle.intake_seats.specs.declared.views.Taker.{Taker}
use Rattle.intake_seats.specs.declared.views.View.{View}
use Rattle.std.specs.Option.{option_to_list}

abbrev Own : Type 0 → Type 0
Own M = Me (Option M) (View M)

abbrev pub front : {A : Type 0} → List A → List A
front [] = []
front (x ∷ xs) = x ∷ []

abbrev pub behind : {A : Type 0} → List A → List A
behind [] = []
behind (x ∷ xs) = xs

module _ {M : Type 0} where
  abbrev pub given_of : View M → List M
  given_of v = go v.handers
    where
      go : List (Hander M) → List M
      go [] = []
      go (h ∷ hs) = h.given

  abbrev pub taken_of : View M → List M
  taken_of v = go v.takers
    where
      go : List (Taker M) → List M
      go [] = []
      go (t ∷ ts) = t.taken

  abbrev pub in_hand_of : View M → Option M
  in_hand_of v = go v.takers
    where
      go : List (Taker M) → Option M
      go [] = None
      go (t ∷ ts) = t.in_hand

  -- the message in the slot that the seat took last
  abbrev pub in_slot : List (ℕ × Option M) → List M
  in_slot [] = []
  in_slot (x ∷ xs) = option_to_list x.1

  abbrev pub looked : ℕ → View M → View M
  looked found v = record {
    handers = map (λ (h : Hander M). record h { last = found; looks = h.looks + 1 }) v.handers;
    takers = map (λ (t : Taker M). record t { last = found; looks = t.looks + 1 }) v.takers;
  }

  abbrev pub with_claim : View M → View M
  with_claim v = record v { handers = map (λ (h : Hander M). record h { claiming = true }) v.handers }

  abbrev pub with_given : List M → View M → View M
  with_given xs v = record v { handers = map (λ (h : Hander M). record h { given = h.given ++ xs; claiming = false }) v.handers }

  abbrev pub with_hand : Option M → View M → View M
  with_hand x v = record v { takers = map (λ (t : Taker M). record t { in_hand = x }) v.takers }

  abbrev pub with_taken : View M → View M
  with_taken v = record v { takers = map (λ (t : Taker M). record t { taken = t.taken ++ option_to_list t.in_hand; in_hand = None }) v.takers }

  -- a hander that does not claim finds a word that counts all that it gave in an empty seat, and all but the last in
  -- any other
  abbrev pub hander_looked : Step (Option M) → Own M → ℕ → Own M → Type 0
  hander_looked st m found m' =
      (m' ≡ (looked found m.0, m.1))
      × (found % 4 ≡ 0 → found ≡ 4 * length (given_of m.0))
      × (found % 4 ≢ 0 → length (given_of m.0) ≡ found / 4 + 1)
      × (length (given_of m.0) ≤ 2 ^ 60)

  -- a taker finds a word that counts all that it took, whatever the state
  abbrev pub taker_looked : Step (Option M) → Own M → ℕ → Own M → Type 0
  taker_looked st m found m' = (m' ≡ (looked found m.0, m.1)) × (found / 4 ≡ length (taken_of m.0))

  abbrev pub claimed : Step (Option M) → Own M → ℕ → Own M → Type 0
  claimed st m found m' =
      (found ≡ st.first → (m' ≡ (with_claim m.0, (st.word, None) ∷ m.1)) × (found ≡ 4 * length (given_of m.0)))
      × (found ≢ st.first → hander_looked st m found m')

  abbrev pub handed : Step (Option M) → Own M → ℕ → Own M → Type 0
  handed st m found m' = m' ≡ (with_given (in_slot m.1) m.0, rest m.1)

  abbrev pub took : Step (Option M) → Own M → ℕ → Own M → Type 0
  took st m found m' =
      (found ≡ st.first → (x : M) × (m' ≡ (with_hand (Some x) m.0, (st.word, Some x) ∷ m.1)) × (in_hand_of m.0 ≡ None))
      × (found ≢ st.first → taker_looked st m found m')

  abbrev pub put_back : Step (Option M) → Own M → ℕ → Own M → Type 0
  put_back st m found m' = m' ≡ (with_hand None m.0, rest m.1)

  abbrev pub cleared : Step (Option M) → Own M → ℕ → Own M → Type 0
  cleared st m found m' = m' ≡ (with_taken m.0, rest m.1)

  abbrev pub only_first_hander : View M → View M
  only_first_hander v = record { handers = front v.handers; takers = [] }

  abbrev pub after_first_hander : View M → View M
  after_first_hander v = record v { handers = behind v.handers }

  abbrev pub only_first_taker : View M → View M
  only_first_taker v = record { handers = []; takers = front v.takers }

  abbrev pub after_first_taker : View M → View M
  after_first_taker v = record v { takers = behind v.takers }

  abbrev pub united : View M → View M → View M
  united v w = record { handers = w.handers ++ v.handers; takers = w.takers ++ v.takers }

  abbrev pub spent : View M
  spent = record { handers = []; takers = [] }
