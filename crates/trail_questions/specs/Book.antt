-- The book of an instrument, after a row or at the end of the day.
use Rattle.std.specs.Prelude.{◌≡◌, ℕ, true, false, List, length, Option, None, Some}
use Rattle.instruments.specs.Listing.{is_unknown_instrument}
use Rattle.venue_rules.specs.Market.{Market}
use Rattle.venue_rules.specs.declared.trail.TrailRow.{TrailRow}
use Rattle.resting_orders.specs.Book.{EmitsBook}
use Rattle.trail_questions.specs.declared.book.BookAfter.{BookAfter}
use Rattle.trail_questions.specs.declared.fault.Unknown.{Unknown}
use Rattle.trail_questions.specs.declared.fault.Unknown.TheVariants.{Instrument, Row}
use Rattle.resting_orders.specs.declared.form.Form.{Form}
use Rattle.resting_orders.specs.declared.form.Form.TheVariants.{Lines, Table}
use Rattle.trail_digest.specs.declared.head.HeadForm.{HeadForm}
use Rattle.trail_digest.specs.declared.head.HeadForm.TheVariants.{Line}
use Rattle.trail_questions.specs.Rows.{is_row, rows_until}

-- The output is the book after that row.
pub record EmitsBookAfter (b : BookAfter) (form : Form) (m : Market) (rows : List TrailRow) (before after : Option (List ℕ)) : Type 0 where
  pub there : is_row b.row (length rows) ≡ true
  pub emits : EmitsBook form m (rows_until b.row rows) b.symbol before after

-- the trail has no such row, or no such instrument
abbrev pub IsUnknownBook : BookAfter → Market → List TrailRow → Unknown → Type 0
IsUnknownBook b m rows Instrument = is_unknown_instrument m.instruments b.symbol ≡ true
IsUnknownBook b m rows Row = is_row b.row (length rows) ≡ false
IsUnknownBook b m rows _ = ⊥

-- the head above a book in a form; a table has none
abbrev pub book_head : Form → Option HeadForm
book_head Lines = Some Line
book_head Table = None
