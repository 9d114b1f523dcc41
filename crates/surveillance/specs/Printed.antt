-- What is written of a day's alarms.
use Rattle.std.specs.Prelude.{◌≡◌, ℕ, List, Option}
use Rattle.std.specs.Io.KnownBytes.{Appends}
use Rattle.day_events.specs.Days.{events, shown}
use Rattle.row_replay.specs.Inputs.{AreOf}
use Rattle.venue_rules.specs.declared.trail.TrailRow.{TrailRow}
use Rattle.venue_rules.specs.Market.{Market}
use Rattle.venue_rules.specs.Run.{Input, run}
use Rattle.surveillance.specs.declared.form.Form.{Form}
use Rattle.surveillance.specs.declared.thresholds.Thresholds.{Thresholds}
use Rattle.surveillance.specs.Alarms.{alarms}
use Rattle.surveillance.specs.Texts.{watch_text}

-- the text of the alarms of the run of these rows' inputs
pub record IsWatch (form : Form) (b : Thresholds) (m : Market) (rs : List TrailRow) (text : List ℕ) : Type 0 where
  pub items : List Input
  pub emitted : AreOf rs items
  pub is : text ≡ watch_text form b m.participants (alarms b m (run m items).history (events m rs items) (shown m rs items))

-- What was written are the alarms of the run of these rows' inputs, and no other byte: each line stands for an alarm
-- whose predicate holds of the trades, the answers and the prices shown, and each such alarm has its line.
pub record EmitsWatch (form : Form) (b : Thresholds) (m : Market) (rs : List TrailRow) (before after : Option (List ℕ)) : Type 0 where
  pub text : List ℕ
  pub made : IsWatch form b m rs text
  pub written : Appends before after text
