-- The rule of a board, which relates its words, its slots and the views of its threads between any two steps. The word
-- of a seat is 4 k + s: k messages were taken, and s is the state, from empty by filling and full to taking.
use Rattle.std.specs.Prelude.{◌≡◌, ℕ, ◌+◌, ◌*◌, ◌^◌, ◌<◌, ◌≤◌, Bool, true, false, List, [], ◌∷◌, ◌++◌, length, slice_index, Option, None, Some}
use mathlib.Core.Option.{none, some}
use mathlib.Core.Option as maybe
use lib.ListN.{get_elem?}
use Rattle.atomic_table.specs.Table.{State}
use Rattle.intake_seats.specs.declared.views.Hander.{Hander}
use Rattle.intake_seats.specs.declared.views.Taker.{Taker}
use Rattle.intake_seats.specs.declared.views.View.{View}
use Rattle.intake_seats.specs.Given.{IsAhead}

pub data Stage (M : Type 0) : Type 0 where
  empty : Stage M
  filling : Stage M
  full : M → Stage M
  taking : M → Stage M

-- the account of one seat, with the numbers of the views that have its hander's and its taker's end
pub record Account (M : Type 0) : Type 0 where
  pub given : List M
  pub taken : List M
  pub stage : Stage M
  pub hander : ℕ
  pub taker : ℕ

module _ {M : Type 0} where
  abbrev pub code : Stage M → ℕ
  code empty = 0
  code filling = 1
  code (full x) = 2
  code (taking x) = 3

  abbrev pub is_filling : Stage M → Bool
  is_filling empty = false
  is_filling filling = true
  is_filling (full x) = false
  is_filling (taking x) = false

  abbrev pub in_hand_at : Stage M → Option M
  in_hand_at empty = None
  in_hand_at filling = None
  in_hand_at (full x) = None
  in_hand_at (taking x) = Some x

  -- the messages given are those taken, then the one in the seat or in hand; home is the value of the slot, or none
  -- while an end has it
  abbrev pub FitsStage : maybe.Option (maybe.Option (Option M)) → List M → List M → Stage M → Type 0
  FitsStage home given taken empty = (given ≡ taken) × (home ≡ some (some None))
  FitsStage home given taken filling = (given ≡ taken) × (home ≡ some none)
  FitsStage home given taken (full x) = (given ≡ taken ++ x ∷ []) × (home ≡ some (some (Some x)))
  FitsStage home given taken (taking x) = (given ≡ taken ++ x ∷ []) × (home ≡ some none)

  abbrev pub IsSettled : ℕ → maybe.Option (maybe.Option (Option M)) → Account M → Type 0
  IsSettled word home a = (word ≡ 4 * length a.taken + code a.stage) × (length a.given ≤ 2 ^ 60) × FitsStage home a.given a.taken a.stage

  -- the hander knows all that was given, and whether it claims
  abbrev pub KnowsGiven : ℕ → ℕ → Hander M → Account M → Type 0
  KnowsGiven n id h a = (h.number < n) × (a.hander ≡ id) × (h.given ≡ a.given) × (h.claiming ≡ is_filling a.stage)

  -- the taker knows all that was taken, and what is in hand
  abbrev pub KnowsTaken : ℕ → ℕ → Taker M → Account M → Type 0
  KnowsTaken n id t a = (t.number < n) × (a.taker ≡ id) × (t.taken ≡ a.taken) × (t.in_hand ≡ in_hand_at a.stage)

pub record IsBoard {M : Type 0} (n : ℕ) (s : State (Option M) (View M)) : Type 0 where
  pub account : ℕ → Account M
  pub words_are : length s.words ≡ n
  pub homes_are : length s.homes ≡ n
  pub each_seat : (k : ℕ) → k < n → IsSettled (slice_index s.words k) (get_elem? s.homes k) (account k)
  pub each_hander : (id : ℕ) (v : View M) (p : ℕ) (h : Hander M) → get_elem? s.views id ≡ some v → get_elem? v.handers p ≡ some h → KnowsGiven n id h (account h.number)
  pub each_taker : (id : ℕ) (v : View M) (p : ℕ) (t : Taker M) → get_elem? s.views id ≡ some v → get_elem? v.takers p ≡ some t → KnowsTaken n id t (account t.number)

-- whatever views have the two ends of a seat, the messages given are those taken, then one at most: the one in hand, if
-- any
abbrev pub AreAhead : {M : Type 0} → State (Option M) (View M) → Type 0
AreAhead {M} s = (i j p q : ℕ) (v w : View M) (h : Hander M) (t : Taker M)
    → get_elem? s.views i ≡ some v → get_elem? v.handers p ≡ some h → get_elem? s.views j ≡ some w → get_elem? w.takers q ≡ some t → h.number ≡ t.number → IsAhead h.given t.taken t.in_hand
