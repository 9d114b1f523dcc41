-- What rests or is held, after a row or at the end of the day.
use Rattle.std.specs.Prelude.{◌≡◌, ℕ, true, false, List, length, Option}
use Rattle.venue_rules.specs.Market.{Market}
use Rattle.venue_rules.specs.declared.trail.TrailRow.{TrailRow}
use Rattle.resting_orders.specs.Rests.{EmitsRests}
use Rattle.resting_orders.specs.declared.form.Form.{Form}
use Rattle.trail_questions.specs.declared.fault.Unknown.{Unknown}
use Rattle.trail_questions.specs.declared.fault.Unknown.TheVariants.{Recipient, Row}
use Rattle.trail_questions.specs.declared.rests.RestsAfter.{RestsAfter}
use Rattle.trail_questions.specs.Answers.{Names, NamesNobody}
use Rattle.trail_questions.specs.Rows.{is_row, rows_until}

-- The output is what rests or is held after that row, of that participant, or of all.
pub record EmitsRestsAfter (r : RestsAfter) (form : Form) (m : Market) (rows : List TrailRow) (before after : Option (List ℕ)) : Type 0 where
  pub who : Option ℕ
  pub names : Names m.participants r.to who
  pub there : is_row r.row (length rows) ≡ true
  pub emits : EmitsRests form m (rows_until r.row rows) who before after

-- nobody has the name, or the trail has no such row
abbrev pub IsUnknownRests : RestsAfter → Market → List TrailRow → Unknown → Type 0
IsUnknownRests r m rows Recipient = NamesNobody m.participants r.to
IsUnknownRests r m rows Row = is_row r.row (length rows) ≡ false
IsUnknownRests r m rows _ = ⊥
