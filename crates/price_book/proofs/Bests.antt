-- The first of a side's orders, read off the end of its rows.
use Rattle.std.proofs.Common.{◌≡◌, ℕ, ℤ, ◌+◌, ◌-◌, ◌<◌, List, [], ◌∷◌, length, map, reverse, get_or, slice_get, Option, Some, option_map, ap, ◌∙◌, arith}
use Rattle.std.proofs.lemmas.List.{length-reverse}
use Rattle.venue_rules.specs.Book.{Resting}
use Rattle.price_book.specs.declared.row.Row.{Row}
use Rattle.price_book.specs.Rows.{row_of, rows_of}
use Rattle.price_book.proofs.Turned.{read-back}

abbrev pub first_price : List Resting → Option ℤ
first_price rs = option_map (λ (r : Resting). r.entry.order.price) (slice_get rs 0)

first_read : (rs : List Resting) (row : Row) → 0 < length (rows_of rs) → row ≡ get_or (rows_of rs) 0 row → Some row.price ≡ first_price rs
first_read [] row low is = absurd (omega (arith, low))
first_read (r ∷ rs) row low is = ap (λ (x : Row). Some x.price) is

pub some_first : (rs : List Resting) (rows : List Row) (count : ℕ) (row : Row) → reverse rows ≡ rows_of rs → count ≡ length rows → 0 < count → row ≡ get_or rows (count - 1) row → Some row.price ≡ first_price rs
some_first rs rows count row e same low is =
    let back : row ≡ get_or (rows_of rs) (length rows - count) row = read-back rows (rows_of rs) count row e low (omega (arith, same)) is in
    first_read rs row (omega (arith, same, low, length-reverse rows, ap length e)) (back ∙ ap (λ n. get_or (rows_of rs) n row) (omega (arith, same)))
