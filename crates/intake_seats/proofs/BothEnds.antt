-- The knowledge of a seat's two ends, compared.
use Rattle.std.proofs.Common.{ℕ, List, refl, sym, ◌∙◌, subst, append-nil}
use mathlib.Core.Option as maybe
use lib.ListN.{get_elem?}
use Rattle.std.specs.Prelude.{Option, None, Some}
use Rattle.atomic_table.specs.Table.{State}
use Rattle.intake_seats.specs.declared.views.View.{View}
use Rattle.intake_seats.specs.Given.{IsAhead}
use Rattle.intake_seats.specs.Rule.{Stage, empty, filling, full, taking, in_hand_at, FitsStage, KnowsGiven, IsBoard, AreAhead}
use Rattle.intake_seats.proofs.Moves.{Home}

module _ {M : Type 0} where
  -- one message at most is in the seat or in hand
  one_more : (home : maybe.Option (Home M)) (given taken : List M) (stage : Stage M) → FitsStage home given taken stage → IsAhead given taken (in_hand_at stage)
  one_more home given taken empty fits = (None, fits.0 ∙ sym (append-nil taken), tt)
  one_more home given taken filling fits = (None, fits.0 ∙ sym (append-nil taken), tt)
  one_more home given taken (full x) fits = (Some x, fits.0, tt)
  one_more home given taken (taking x) fits = (Some x, fits.0, refl)

  pub are_ahead : (n : ℕ) (s : State (Option M) (View M)) → IsBoard n s → AreAhead s
  are_ahead n s b i j p q v w h t v_at h_at w_at t_at same =
      let k : ℕ = t.number in let a = b.account k in
      let given = subst (λ (k : ℕ). KnowsGiven n i h (b.account k)) same (b.each_hander i v p h v_at h_at) in
      let taken = b.each_taker j w q t w_at t_at in
      let ahead : IsAhead a.given a.taken (in_hand_at a.stage) = one_more (get_elem? s.homes k) a.given a.taken a.stage (b.each_seat k taken.0).2 in
      subst (λ (z : List M × List M × Option M). IsAhead z.0 z.1 z.2) (λ i. (sym given.2 i, sym taken.2 i, sym taken.3 i)) ahead
