-- The message and the moment of a row.
use Rattle.std.proofs.Common.{◌≡◌, refl, sym, ap, ◌∙◌, ℕ, zero, suc, ◌-◌, ◌==◌, if◌then◌else◌, Bool, true, false, List, [], ◌∷◌, find, slice_get, Option, Some, None, arith, eq-eqb, eqb-true}
use Rattle.venue_rules.specs.declared.trail.TrailRow.{TrailRow}
use Rattle.trade_reconstruction.specs.Laws.{AreDistinct, MessagesAreOfRows}
use Rattle.trade_reconstruction.specs.Lines.{is_row, moment_in, row_at, sent_of, this_row}
use Rattle.trade_blotter.proofs.Lists.{none_is_some, same_some}
use Rattle.trade_reconstruction.proofs.Members.{found_first, found_later}

-- the row with a number is found
row_found : (rs : List TrailRow) (k : ℕ) (row : TrailRow) → AreDistinct rs → slice_get rs k ≡ Some row → find (is_row row.n) rs ≡ Some row
row_found [] k row apart at = absurd (none_is_some row at)
row_found (x ∷ xs) zero row apart at = found_first (is_row row.n) x xs (eq-eqb x.n row.n (ap (λ (y : TrailRow). y.n) (same_some x row at))) ∙ at
row_found (x ∷ xs) (suc k) row apart at = found_later (is_row row.n) x xs (other (x.n == row.n) refl) ∙ row_found xs k row (λ j l a b e f g. less j l (apart (suc j) (suc l) a b e f g)) at
  where
    less : (j l : ℕ) → suc j ≡ suc l → j ≡ l
    less j l e = omega (arith, e)

    never : 0 ≡ suc k → ⊥
    never e = omega (arith, e)

    other : (b : Bool) → (x.n == row.n) ≡ b → (x.n == row.n) ≡ false
    other false e = e
    other true e = absurd (never (apart 0 (suc k) x row refl at (eqb-true x.n row.n e)))

-- by its place too
row_placed : (rs : List TrailRow) (k : ℕ) (row : TrailRow) → AreDistinct rs → slice_get rs k ≡ Some row → (o : Option TrailRow) → slice_get rs (row.n - 1) ≡ o → this_row rs row.n o ≡ Some row
row_placed rs k row apart at None there = row_found rs k row apart at
row_placed rs k row apart at (Some r) there = by (is_row row.n r) refl
  where
    same : r.n ≡ row.n → r ≡ row
    same e = same_some r row (sym there ∙ (ap (slice_get rs) (apart (row.n - 1) k r row there at e) ∙ at))

    by : (b : Bool) → is_row row.n r ≡ b → (if is_row row.n r then Some r else find (is_row row.n) rs) ≡ Some row
    by true e = ap (λ (b : Bool). if b then Some r else find (is_row row.n) rs) e ∙ ap (λ (x : TrailRow). Some x) (same (eqb-true r.n row.n e))
    by false e = ap (λ (b : Bool). if b then Some r else find (is_row row.n) rs) e ∙ row_found rs k row apart at

pub messages_are_of_rows : MessagesAreOfRows
messages_are_of_rows rs k row apart at =
    let there : row_at rs row.n ≡ Some row = row_placed rs k row apart at (slice_get rs (row.n - 1)) refl in
    record { message = ap sent_of there; moment = ap moment_in there }
