-- The ends of a new board are all there, in order, and no call was made with them.
use Rattle.std.proofs.Common.{◌≡◌, ◌⊎◌, inl, inr, ⊎_elim, length-append, ℕ, zero, suc, List, [], ◌∷◌, ◌++◌, length, refl, sym, ap, ◌∙◌, arith}
use Rattle.std.specs.Prelude.{Some, slice_get}
use Rattle.atomic_table.specs.Seated.{TableId}
use Rattle.intake_seats.specs.Given.{HandEnd, TakeEnd}
use Rattle.intake_seats.specs.Ends.{AreHands, AreTakes, AreUnusedHands, AreUnusedTakes, new_hand, new_take, new_hands, new_takes}

slice_snoc : {A : Type 0} (l : List A) (a b : A) (j : ℕ) → slice_get (l ++ a ∷ []) j ≡ Some b → (slice_get l j ≡ Some b) ⊎ ((j ≡ length l) × (a ≡ b))
slice_snoc [] a b zero e = let same : a ≡ b = cc in inr (refl, same)
slice_snoc [] a b (suc j) e = absurd (cc)
slice_snoc (x ∷ xs) a b zero e = inl e
slice_snoc (x ∷ xs) a b (suc j) e = ⊎_elim inl (λ t. inr (ap suc t.0, t.1)) (slice_snoc xs a b j e)

module _ (M : Type 0) (board : TableId) where
  length-new_hands : (n : ℕ) → length (new_hands {M = M} board n) ≡ n
  length-new_hands zero = refl
  length-new_hands (suc n) = length-append (new_hands {M = M} board n) (new_hand board n ∷ []) ∙ (let l = length-new_hands n in omega arith)

  length-new_takes : (n : ℕ) → length (new_takes {M = M} board n) ≡ n
  length-new_takes zero = refl
  length-new_takes (suc n) = length-append (new_takes {M = M} board n) (new_take board n ∷ []) ∙ (let l = length-new_takes n in omega arith)

  new_hand_at : (n k : ℕ) (h : HandEnd M) → slice_get (new_hands board n) k ≡ Some h → h ≡ new_hand board k
  new_hand_at zero k h e = absurd (cc)
  new_hand_at (suc n) k h e = ⊎_elim (new_hand_at n k h)
      (λ (t : (k ≡ length (new_hands {M = M} board n)) × (new_hand board n ≡ h)). sym t.1 ∙ ap (new_hand board) (sym (t.0 ∙ length-new_hands n)))
      (slice_snoc (new_hands board n) (new_hand board n) h k e)

  new_take_at : (n k : ℕ) (t : TakeEnd M) → slice_get (new_takes board n) k ≡ Some t → t ≡ new_take board k
  new_take_at zero k t e = absurd (cc)
  new_take_at (suc n) k t e = ⊎_elim (new_take_at n k t)
      (λ (u : (k ≡ length (new_takes {M = M} board n)) × (new_take board n ≡ t)). sym u.1 ∙ ap (new_take board) (sym (u.0 ∙ length-new_takes n)))
      (slice_snoc (new_takes board n) (new_take board n) t k e)

  pub new_hands_are : (n : ℕ) (hands : List (HandEnd M)) → n ≡ board.words → hands ≡ new_hands board n → AreHands board hands × AreUnusedHands hands
  new_hands_are n hands all is = (
    (ap length is ∙ length-new_hands n ∙ all, λ k h e. let new = new_hand_at n k h (at k h e) in (ap (λ (z : HandEnd M). z.board) new, ap (λ (z : HandEnd M). z.number) new)),
    λ k h e. let new = new_hand_at n k h (at k h e) in (ap (λ (z : HandEnd M). z.given) new, ap (λ (z : HandEnd M). z.last) new, ap (λ (z : HandEnd M). z.looks) new),
  )
    where
      at : (k : ℕ) (h : HandEnd M) → slice_get hands k ≡ Some h → slice_get (new_hands board n) k ≡ Some h
      at k h e = ap (λ l. slice_get l k) (sym is) ∙ e

  pub new_takes_are : (n : ℕ) (takes : List (TakeEnd M)) → n ≡ board.words → takes ≡ new_takes board n → AreTakes board takes × AreUnusedTakes takes
  new_takes_are n takes all is = (
    (ap length is ∙ length-new_takes n ∙ all, λ k t e. let new = new_take_at n k t (at k t e) in (ap (λ (z : TakeEnd M). z.board) new, ap (λ (z : TakeEnd M). z.number) new, ap (λ (z : TakeEnd M). z.in_hand) new)),
    λ k t e. let new = new_take_at n k t (at k t e) in (ap (λ (z : TakeEnd M). z.taken) new, ap (λ (z : TakeEnd M). z.last) new, ap (λ (z : TakeEnd M). z.looks) new),
  )
    where
      at : (k : ℕ) (t : TakeEnd M) → slice_get takes k ≡ Some t → slice_get (new_takes board n) k ≡ Some t
      at k t e = ap (λ l. slice_get l k) (sym is) ∙ e
