use Rattle.std.proofs.Common.{◌≡◌, ◌≢◌, ◌⊎◌, inl, inr, ⊎_elim, ℕ, zero, suc, ◌+◌, ◌-◌, List, [], ◌∷◌, set, Some, arith, refl, sym, ap, ◌∙◌, subst}
use Rattle.std.proofs.lemmas.List.{length-set}
use Rattle.std.proofs.lemmas.Option.{slice_get_read, slice_get_within}
use Rattle.std.specs.Prelude.{Option, slice_get, IfSome}
use Rattle.test_integration.proofs.seats.each_seat_has_its_own_message.Invariants.{Own, OwnPutBack}
use Rattle.test_integration.proofs.seats.each_seat_has_its_own_message.Goals as goal

at_set : {A : Type 0} (xs : List A) (i k : ℕ) (a x : A) → slice_get (set xs i a) k ≡ Some x → ((k ≡ i) × (a ≡ x)) ⊎ ((k ≢ i) × (slice_get xs k ≡ Some x))
at_set [] i k a x e = absurd (cc)
at_set (y ∷ ys) zero zero a x e = let same : a ≡ x = cc in inl (refl, same)
at_set (y ∷ ys) zero (suc k) a x e = inr ((λ h. omega arith), e)
at_set (y ∷ ys) (suc i) zero a x e = inr ((λ h. omega arith), e)
at_set (y ∷ ys) (suc i) (suc k) a x e = ⊎_elim (λ t. inl (ap suc t.0, t.1)) (λ t. inr ((λ h. t.0 (let same : k ≡ i = omega arith in same)), t.1)) (at_set ys i k a x e)

-- one end of a list changes
all_set : {A : Type 0} (P Q : ℕ → A → Type 0) (xs : List A) (i : ℕ) (a : A) → Q i a → ((k : ℕ) (x : A) → k ≢ i → P k x → Q k x) → ((k : ℕ) (x : A) → slice_get xs k ≡ Some x → P k x)
    → (k : ℕ) (x : A) → slice_get (set xs i a) k ≡ Some x → Q k x
all_set P Q xs i a here others all k x e = ⊎_elim
    (λ (t : (k ≡ i) × (a ≡ x)). subst (λ (z : ℕ × _). Q z.0 z.1) (λ j. (sym t.0 j, t.1 j)) here)
    (λ (t : (k ≢ i) × (slice_get xs k ≡ Some x)). others k x t.0 (all k x t.1))
    (at_set xs i k a x e)

pub finds-requires : goal.finds-requires
finds-requires g c =
    let i = c.loop-k-2.invariant in
    let k : ℕ = c.loop-k-2.k-counter - 1 in
    (i.3 k _ (slice_get_read c.loop-k-2.takes.items 32 k _ (sym i.2) (omega (arith, c.loop-k-2.auto.k-counter, c.loop-k-2-test.true)) c.index_mut-in-loop-k-2.ensures.value)).0

pub loop-k-2-preserved : goal.loop-k-2-preserved
loop-k-2-preserved g c =
    let i = c.loop-k-2.invariant in
    let k : ℕ = c.loop-k-2.k-counter - 1 in
    let own = i.3 k _ (slice_get_read c.loop-k-2.takes.items 32 k _ (sym i.2) (omega (arith, c.loop-k-2.auto.k-counter, c.loop-k-2-test.true)) c.index_mut-in-loop-k-2.ensures.value) in
    let found = c.finds.ensures.found c.if-not-finds.false in
    let held : IfSome c.finds.new.take.in_hand (λ h. h ≡ k) = subst (λ (o : Option ℕ). IfSome o (λ h. h ≡ k)) (sym found) refl in (
      i.0,
      i.1,
      length-set _ _ _ ∙ i.2,
      all_set (Own c.in_ok-board.board) (Own c.in_ok-board.board) c.loop-k-2.takes.items k c.finds.new.take (c.finds.ensures.same.0 ∙ own.0, c.finds.ensures.same.1 ∙ own.1, held) (λ _ _ _ p. p) i.3,
    )

pub loop-k-3-init : goal.loop-k-3-init
loop-k-3-init g c = let i = c.loop-k-2.invariant in (i.0, i.1, i.2, λ k t e. let own = i.3 k t e in (own.0, own.1, own.2, λ low. absurd (omega arith)))

pub put_back-requires-clause-own : goal.put_back-requires-clause-own
put_back-requires-clause-own g c =
    let i = c.loop-k-3.invariant in
    (i.3 c.loop-k-3.k _ (slice_get_read c.loop-k-3.takes.items 32 c.loop-k-3.k _ (sym i.2) c.loop-k-3-test.true c.index_mut-in-loop-k-3.ensures.value)).0

pub put_back-requires-clause-taken : goal.put_back-requires-clause-taken
put_back-requires-clause-taken g c =
    let i = c.loop-k-3.invariant in
    (i.3 c.loop-k-3.k _ (slice_get_read c.loop-k-3.takes.items 32 c.loop-k-3.k _ (sym i.2) c.loop-k-3-test.true c.index_mut-in-loop-k-3.ensures.value)).2

pub loop-k-3-preserved : goal.loop-k-3-preserved
loop-k-3-preserved g c =
    let i = c.loop-k-3.invariant in
    let k : ℕ = c.loop-k-3.k in
    let own = i.3 k _ (slice_get_read c.loop-k-3.takes.items 32 k _ (sym i.2) c.loop-k-3-test.true c.index_mut-in-loop-k-3.ensures.value) in
    let back = c.put_back.ensures.same in
    let none : IfSome c.put_back.new.self.in_hand (λ h. h ≡ k) = subst (λ (o : Option ℕ). IfSome o (λ h. h ≡ k)) (sym back.2) tt in (
      i.0,
      i.1,
      length-set _ _ _ ∙ i.2,
      all_set (OwnPutBack c.in_ok-board.board k) (OwnPutBack c.in_ok-board.board (k + 1)) c.loop-k-3.takes.items k c.put_back.new.self (back.0.0 ∙ own.0, back.0.1 ∙ own.1, none, λ _. back.2)
          (λ j t apart p. (p.0, p.1, p.2, λ low. p.3 (omega (arith, apart)))) i.3,
    )

pub close_all-requires : goal.close_all-requires
close_all-requires g c =
    let i = c.loop-k-3.invariant in
    let all : 32 ≡ c.in_ok-board.board.words = sym i.0 in (
      i.1,
      (i.2 ∙ all, λ k t e. let own = i.3 k t e in (own.0, own.1, own.3 (let low = slice_get_within c.loop-k-3.takes.items k t e in omega (arith, i.2, c.loop-k-3-test.false)))),
    )
