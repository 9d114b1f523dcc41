use Rattle.std.proofs.Common.{◌≡◌, refl, sym, ap, ◌∙◌, ℕ, zero, suc, ◌+◌, ◌-◌, ◌≤◌, ◌<◌, ℤ, Bool, true, false, not, List, [], ◌∷◌, length, get_or, set, reverse, arith}
use Rattle.std.specs.List.{insert, remove}
use Rattle.std.specs.List.Sorted.{IsPartitionedBy, IsPartitionPoint}
use Rattle.fix_dictionary.specs.declared.values.Side.{Side}
use Rattle.venue_rules.specs.Book.{is_better}
use Rattle.price_book.specs.declared.row.Priority.{Priority}
use Rattle.price_book.specs.declared.row.Row.{Row}
use Rattle.price_book.specs.Rows.{priority_of, ranks_before, comes_before, AreRanked, IsRow, behind, cut_at}
use Rattle.price_book.specs.Ranks.{row_with, rows_with}
use Rattle.price_book.proofs.Ranking.{parted-before, parted-worse, placed-turned, behind-turned, not-twice}
use Rattle.price_book.proofs.Turned.{parted-turned}

-- Orders in two lists: priorities and leaves quantities.

pub rows-length : (ps : List Priority) (ls : List ℕ) → length ps ≡ length ls → length (rows_with ps ls) ≡ length ls
rows-length [] [] h = refl
rows-length [] (l ∷ ls) h = h
rows-length (p ∷ ps) [] h = absurd (omega (arith, h))
rows-length (p ∷ ps) (l ∷ ls) h = ap suc (rows-length ps ls (omega (arith, h)))

-- reading an element
pub rows-read : (ps : List Priority) (ls : List ℕ) (at : ℕ) (p : Priority) (l : ℕ) (d : Row) → length ps ≡ length ls → at < length ls → p ≡ get_or ps at p → l ≡ get_or ls at l → row_with p l ≡ get_or (rows_with ps ls) at d
rows-read ps [] at p l d h k e f = absurd (omega (arith, k))
rows-read [] (m ∷ ls) at p l d h k e f = absurd (omega (arith, h))
rows-read (q ∷ ps) (m ∷ ls) zero p l d h k e f = ap (λ x. row_with x l) e ∙ ap (row_with q) f
rows-read (q ∷ ps) (m ∷ ls) (suc at) p l d h k e f = rows-read ps ls at p l d (omega (arith, h)) (omega (arith, k)) e f

pub priorities-read : (ps : List Priority) (ls : List ℕ) (at : ℕ) (d : Row) → length ps ≡ length ls → priority_of (get_or (rows_with ps ls) at d) ≡ get_or ps at (priority_of d)
priorities-read [] ls at d h = refl
priorities-read (p ∷ ps) [] at d h = absurd (omega (arith, h))
priorities-read (p ∷ ps) (l ∷ ls) zero d h = refl
priorities-read (p ∷ ps) (l ∷ ls) (suc at) d h = priorities-read ps ls at d (omega (arith, h))

-- insertion, removal, reduction

pub rows-insert : (ps : List Priority) (ls : List ℕ) (at : ℕ) (p : Priority) (l : ℕ) → length ps ≡ length ls → rows_with (insert ps at p) (insert ls at l) ≡ insert (rows_with ps ls) at (row_with p l)
rows-insert ps ls zero p l h = refl
rows-insert [] [] (suc at) p l h = refl
rows-insert [] (m ∷ ls) (suc at) p l h = absurd (omega (arith, h))
rows-insert (q ∷ ps) [] (suc at) p l h = absurd (omega (arith, h))
rows-insert (q ∷ ps) (m ∷ ls) (suc at) p l h = ap (λ t. row_with q m ∷ t) (rows-insert ps ls at p l (omega (arith, h)))

pub rows-remove : (ps : List Priority) (ls : List ℕ) (at : ℕ) → length ps ≡ length ls → rows_with (remove ps at) (remove ls at) ≡ remove (rows_with ps ls) at
rows-remove [] [] zero h = refl
rows-remove [] [] (suc at) h = refl
rows-remove [] (m ∷ ls) at h = absurd (omega (arith, h))
rows-remove (q ∷ ps) [] at h = absurd (omega (arith, h))
rows-remove (q ∷ ps) (m ∷ ls) zero h = refl
rows-remove (q ∷ ps) (m ∷ ls) (suc at) h = ap (λ t. row_with q m ∷ t) (rows-remove ps ls at (omega (arith, h)))

pub rows-cut : (ps : List Priority) (ls : List ℕ) (at q l : ℕ) → length ps ≡ length ls → l ≡ get_or ls at l → rows_with ps (set ls at (l - q)) ≡ cut_at at q (rows_with ps ls)
rows-cut [] ls at q l h e = refl
rows-cut (p ∷ ps) [] at q l h e = absurd (omega (arith, h))
rows-cut (p ∷ ps) (m ∷ ls) zero q l h e = ap (λ n. row_with p (n - q) ∷ rows_with ps ls) e
rows-cut (p ∷ ps) (m ∷ ls) (suc at) q l h e = ap (λ t. row_with p m ∷ t) (rows-cut ps ls at q l (omega (arith, h)) e)

-- a search that reads the priorities alone

pub priorities-parted : (q : Priority → Bool) (ps : List Priority) (ls : List ℕ) → length ps ≡ length ls → IsPartitionedBy (λ row. q (priority_of row)) (rows_with ps ls) → IsPartitionedBy q ps
priorities-parted q ps ls h parted i j d low high up =
    let row : Row = row_with d 0 in
    ap q (sym (priorities-read ps ls i row h)) ∙ parted i j row low (omega (arith, high, h, rows-length ps ls h)) (ap q (priorities-read ps ls j row h) ∙ up)

pub rows-point : (q : Priority → Bool) (ps : List Priority) (ls : List ℕ) (at : ℕ) → length ps ≡ length ls → IsPartitionPoint (λ y. q y ≡ true) (λ y. q y ≡ false) ps at → IsPartitionPoint (λ y. q (priority_of y) ≡ true) (λ y. q (priority_of y) ≡ false) (rows_with ps ls) at
rows-point q ps ls at h point = (
  (λ k d low high. ap q (priorities-read ps ls k d h) ∙ point.0 k (priority_of d) low high),
  (λ k d low high. ap q (priorities-read ps ls k d h) ∙ point.1 k (priority_of d) low (omega (arith, high, h, rows-length ps ls h))),
)

-- the place of an order, and of an entering one

pub place-found : (side : Side) (p : ℤ) (n : ℕ) (ps : List Priority) (ls : List ℕ) (at k : ℕ) → length ps ≡ length ls → AreRanked side (reverse (rows_with ps ls)) → IsRow n p (reverse (rows_with ps ls)) k → at ≤ length ps → (IsPartitionedBy (λ o. not (ranks_before side p n o)) ps → IsPartitionPoint (λ o. not (ranks_before side p n o) ≡ true) (λ o. not (ranks_before side p n o) ≡ false) ps at) → at + k ≡ length (rows_with ps ls)
place-found side p n ps ls at k h ranked is bound found =
    let later = λ (o : Priority). not (ranks_before side p n o) in
    let rows : List Row = rows_with ps ls in
    let parted : IsPartitionedBy (λ row. not (comes_before side p n row)) rows = parted-turned (comes_before side p n) (λ row. not (comes_before side p n row)) rows (λ row. refl) (parted-before side p n (reverse rows) ranked) in
    placed-turned side p n rows at k ranked is (omega (arith, bound, h, rows-length ps ls h)) (rows-point later ps ls at h (found (priorities-parted later ps ls h parted)))

pub worse-found : (side : Side) (p : ℤ) (ps : List Priority) (ls : List ℕ) (at : ℕ) → length ps ≡ length ls → AreRanked side (reverse (rows_with ps ls)) → at ≤ length ps → (IsPartitionedBy (λ (o : Priority). is_better side p o.price) ps → IsPartitionPoint (λ (o : Priority). is_better side p o.price ≡ true) (λ (o : Priority). is_better side p o.price ≡ false) ps at) → at + behind side p (reverse (rows_with ps ls)) ≡ length (rows_with ps ls)
worse-found side p ps ls at h ranked bound found =
    let better = λ (o : Priority). is_better side p o.price in
    let rows : List Row = rows_with ps ls in
    let parted : IsPartitionedBy (λ (row : Row). is_better side p row.price) rows = parted-turned (λ row. not (is_better side p row.price)) (λ row. is_better side p row.price) rows (λ row. not-twice (is_better side p row.price)) (parted-worse side p (reverse rows) ranked) in
    behind-turned side p rows at (omega (arith, bound, h, rows-length ps ls h)) (rows-point better ps ls at h (found (priorities-parted better ps ls h parted)))
