-- What the last state of a board says of each seat, once one thread has all ends.
use Rattle.std.proofs.Common.{◌≡◌, ℕ, zero, suc, ◌+◌, ◌<◌, Bool, false, List, [], ◌∷◌, ◌++◌, map, get_or, set, take, refl, sym, ap, ◌∙◌, subst, arith, All, append-nil, get_or-set_other}
use mathlib.Core.Option.{some, some-injective, some-ne-none}
use mathlib.Core.Option as maybe
use mathlib.Core.Logic.{dite}
use native.Mathlib.Decide.{ℕ_discrete}
use lib.ListN.{get_elem?}
use Rattle.std.specs.Slots.Ownership.{Filled}
use Rattle.std.specs.Prelude.{Option, None, Some, slice_get}
use Rattle.std.specs.Option.{option_to_list}
use Rattle.std.proofs.lemmas.List.Elements.{All-nil, All-cons}
use Rattle.std.proofs.lemmas.Bool.{false≢true}
use Rattle.atomic_table.specs.Table.{Final, Seen}
use Rattle.atomic_table.specs.Seated.{TableId}
use Rattle.intake_seats.specs.declared.views.Hander.{Hander}
use Rattle.intake_seats.specs.declared.views.Taker.{Taker}
use Rattle.intake_seats.specs.declared.views.View.{View}
use Rattle.intake_seats.specs.Given.{HandEnd, TakeEnd}
use Rattle.intake_seats.specs.Ends.{handing, taking, resting_hander, resting_taker, with_handers, with_takers, AreHands, AreTakes, IsLeft}
use Rattle.intake_seats.specs.Rule.{Stage, empty, filling, full, Account, code, is_filling, in_hand_at, FitsStage, IsSettled, KnowsGiven, KnowsTaken, IsBoard}
use Rattle.intake_seats.specs.Rule as rule
use Rattle.intake_seats.specs.Steps.{united, spent}
use Rattle.intake_seats.proofs.Moves.{Home}

pub at_slice : {A : Type 0} (xs : List A) (k : ℕ) (x : A) → slice_get xs k ≡ Some x → get_elem? xs k ≡ some x
at_slice [] k x e = absurd (cc)
at_slice (y ∷ ys) zero x e = let same : y ≡ x = cc in ap some same
at_slice (y ∷ ys) (suc k) x e = at_slice ys k x e

pub at_mapped : {A B : Type 0} (f : A → B) (xs ys : List B) (l : List A) (k : ℕ) (x : A) → xs ≡ map f l ++ ys → slice_get l k ≡ Some x → get_elem? xs k ≡ some (f x)
at_mapped {A = A} {B = B} f xs ys l k x is e = ap (λ z. get_elem? z k) is ∙ go l k e
  where
    go : (l : List A) (k : ℕ) → slice_get l k ≡ Some x → get_elem? (map f l ++ ys) k ≡ some (f x)
    go [] k e = absurd (cc)
    go (y ∷ zs) zero e = let same : y ≡ x = cc in ap (λ z. some (f z)) same
    go (y ∷ zs) (suc k) e = go zs k e

pub all_at : {A : Type 0} (P : A → Type 0) (xs : List A) → ((k : ℕ) (x : A) → slice_get xs k ≡ Some x → P x) → All P xs
all_at P [] h = All-nil P
all_at P (x ∷ xs) h = All-cons P x xs (h 0 x refl) (all_at P xs (λ k y e. h (suc k) y e))

take_next : {A : Type 0} (xs : List A) (i : ℕ) (x : A) → get_elem? xs i ≡ some x → take (suc i) xs ≡ take i xs ++ x ∷ []
take_next [] i x e = absurd (some-ne-none x (sym e))
take_next (y ∷ ys) zero x e = ap (λ z. z ∷ []) (some-injective y x e)
take_next (y ∷ ys) (suc i) x e = ap (λ z. y ∷ z) (take_next ys i x e)

pub take_more : {A : Type 0} (xs : List A) (i : ℕ) (x : A) → get_elem? xs i ≡ some x → take (i + 1) xs ≡ take i xs ++ x ∷ []
take_more xs i x e = ap (λ k. take k xs) (let next : i + 1 ≡ suc i = omega arith in next) ∙ take_next xs i x e

none_here : (fs : List Bool) (i : ℕ) → get_or (set fs i false) i false ≡ false
none_here [] i = refl
none_here (f ∷ fs) zero = refl
none_here (f ∷ fs) (suc i) = none_here fs i

-- the places from i + 1 on stay full, and those before are empty, once place i was emptied
pub still_filled : (fs : List Bool) (i n : ℕ) → Filled fs i n → Filled (set fs i false) (i + 1) n
still_filled fs i n whole k low high = get_or-set_other fs i k false false (λ e. omega arith) ∙ whole k (omega arith) high

pub now_empty : (fs : List Bool) (i : ℕ) → ((k : ℕ) → k < i → get_or fs k false ≡ false) → (k : ℕ) → k < i + 1 → get_or (set fs i false) k false ≡ false
now_empty fs i before k low = dite (ℕ_discrete k i) (λ e. subst (λ (j : ℕ). get_or (set fs i false) j false ≡ false) (sym e) (none_here fs i)) (λ ne. get_or-set_other fs i k false false ne ∙ before k (omega arith))

module _ {M : Type 0} where
  -- one further hander's end, from the back of the list
  pub hands_more : (hands : List (HandEnd M)) (h : HandEnd M) (v : View M) → with_handers hands (united v (handing h)) ≡ with_handers (hands ++ h ∷ []) v
  hands_more hands h v = ap (λ (l : List (Hander M)). record { handers = l; takers = v.takers }) (go hands)
    where
      go : (hs : List (HandEnd M)) → map resting_hander hs ++ resting_hander h ∷ v.handers ≡ map resting_hander (hs ++ h ∷ []) ++ v.handers
      go [] = refl
      go (x ∷ xs) = ap (λ l. resting_hander x ∷ l) (go xs)

  pub takes_more : (takes : List (TakeEnd M)) (t : TakeEnd M) (v : View M) → with_takers takes (united v (taking t)) ≡ with_takers (takes ++ t ∷ []) v
  takes_more takes t v = ap (λ (l : List (Taker M)). record { handers = v.handers; takers = l }) (go takes)
    where
      go : (ts : List (TakeEnd M)) → map resting_taker ts ++ resting_taker t ∷ v.takers ≡ map resting_taker (ts ++ t ∷ []) ++ v.takers
      go [] = refl
      go (x ∷ xs) = ap (λ l. resting_taker x ∷ l) (go xs)

  -- a seat that is not filling, and of which nothing is in hand, holds what was given and not taken
  rests : (home : maybe.Option (Home M)) (given taken : List M) (stage : Stage M) → FitsStage home given taken stage → is_filling stage ≡ false → in_hand_at stage ≡ None → (x : Option M) × (home ≡ some (some x)) × (given ≡ taken ++ option_to_list x)
  rests home given taken empty fits still free = (None, fits.1, fits.0 ∙ sym (append-nil taken))
  rests home given taken filling fits still free = absurd (false≢true (sym still))
  rests home given taken (full x) fits still free = (Some x, fits.1, fits.0)
  rests home given taken (rule.taking x) fits still free = absurd (cc)

  pub all_left : (n id : ℕ) (v : View M) (words : List ℕ) (slots : List (Option M)) (board : TableId) (hands : List (HandEnd M)) (takes : List (TakeEnd M))
      → Final (Seen (IsBoard n) id v) words slots → v ≡ with_handers hands (with_takers takes spent) → AreHands board hands → AreTakes board takes → IsLeft hands takes slots
  all_left n id v words slots board hands takes last is own_hands own_takes k h t x h_at t_at x_at =
      let s = last.0 in let b = last.1.0 in
      let hk = own_hands.1 k h h_at in let tk = own_takes.1 k t t_at in
      let given = b.each_hander id v k (resting_hander h) last.1.1 (at_mapped resting_hander v.handers [] hands k h (ap (λ (u : View M). u.handers) is) h_at) in
      let taken = b.each_taker id v k (resting_taker t) last.1.1 (at_mapped resting_taker v.takers [] takes k t (ap (λ (u : View M). u.takers) is) t_at) in
      let given_at = subst (λ (j : ℕ). KnowsGiven n id (resting_hander h) (b.account j)) hk.1 given in
      let taken_at = subst (λ (j : ℕ). KnowsTaken n id (resting_taker t) (b.account j)) tk.1 taken in
      let a = b.account k in
      let below : k < n = subst (λ (j : ℕ). j < n) hk.1 given.0 in
      let settled = b.each_seat k below in
      let r = rests (get_elem? s.homes k) a.given a.taken a.stage settled.2 (sym given_at.3) (sym taken_at.3 ∙ tk.2) in
      let same : r.0 ≡ x = some-injective r.0 x (sym (last.4 k r.0 r.1) ∙ at_slice slots k x x_at) in
      given_at.2 ∙ r.2 ∙ (λ i. sym taken_at.2 i ++ option_to_list (same i))
