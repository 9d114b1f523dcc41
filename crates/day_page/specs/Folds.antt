-- What begins and ends among the rows: one table of at most 120, and folds of 200 of more.
use Rattle.std.specs.Prelude.{ℕ, ◌+◌, ◌-◌, ◌%◌, ◌==◌, List, [], ◌∷◌, nat_le, length, slice_get, unwrap_or, decimal, if◌then◌else◌}
use Rattle.page_text.specs.Parts.{Part}
use Rattle.sef_moment.specs.Utc.{utc_text}
use Rattle.venue_rules.specs.declared.trail.TrailRow.{TrailRow}
use Rattle.day_sections.specs.Values.{are_shown}
use Rattle.day_tables.specs.Parts.{plain_part}
use Rattle.day_page.specs.declared.template.TheConstants.{FOLD, NEXT_FOLD, NO_ROWS, ROWS_END, ROWS_LEFT, ROWS_OPEN}

-- the 200th row from this place on, or else the last of all
abbrev pub last_of_fold : List TrailRow → ℕ → TrailRow → TrailRow
last_of_fold rs place r = unwrap_or (slice_get rs (place + 199)) (unwrap_or (slice_get rs (length rs - 1)) r)

-- the numbers of a fold's first row and last, and their moments

abbrev pub fold_of : List ℕ → TrailRow → TrailRow → Part
fold_of template first last = record {
  template = template;
  values = decimal first.n ∷ decimal last.n ∷ utc_text first.moment ∷ utc_text last.moment ∷ decimal first.n ∷ decimal last.n ∷ [];
}

abbrev pub fold_part : List ℕ → List TrailRow → ℕ → TrailRow → Part
fold_part template rs place r = fold_of template r (last_of_fold rs place r)

-- at most 120 stand open, in one table
abbrev pub first_part : List TrailRow → TrailRow → Part
first_part rs r = if nat_le (length rs) 120 then plain_part ROWS_OPEN.now else fold_part FOLD.now rs 0 r

-- before the row at this place, of all on the page
abbrev pub opening : List TrailRow → ℕ → TrailRow → List Part
opening rs place r =
    if place == 0 then first_part rs r ∷ [] else if place % 200 == 0 then fold_part NEXT_FOLD.now rs place r ∷ [] else []

-- after the last row
abbrev pub closing : List TrailRow → List ℕ
closing rs = if length rs == 0 then NO_ROWS.now else if are_shown rs then ROWS_END.now else ROWS_LEFT.now
