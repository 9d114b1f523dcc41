-- What is promised of a comparison.
use Rattle.std.specs.Prelude.{◌≡◌, ℕ, List, [], ◌++◌, Option}
use Rattle.std.specs.Io.KnownBytes.{Appends}
use Rattle.participants.specs.Relations.{name_of}
use Rattle.venue_rules.specs.declared.trail.TrailRow.{TrailRow}
use Rattle.venue_rules.specs.Market.{Market}
use Rattle.venue_rules.specs.Run.{Input}
use Rattle.row_replay.specs.Inputs.{AreOf}
use Rattle.desk_log.specs.declared.comparing.Comparison.{Comparison}
use Rattle.desk_log.specs.declared.fault.LogFault.{LogFault}
use Rattle.desk_log.specs.declared.fault.LogFault.TheVariants.{Memory, Output, NoLog}
use Rattle.desk_log.specs.declared.owed.Owed.{Owed}
use Rattle.desk_log.specs.declared.reading.Reading.{Reading}
use Rattle.desk_log.specs.Comparing.{Says}
use Rattle.desk_log.specs.Frames.{bodies_in}
use Rattle.desk_log.specs.Numbered.{Logged, numbered_in, texts_in}
use Rattle.desk_log.specs.Once.{IsOnce}
use Rattle.desk_log.specs.Owed.{owed_of, owed_texts, owed_views}
use Rattle.desk_log.specs.Reading.{IsReading, messages_in}
use Rattle.desk_log.specs.Report.{report}
use Rattle.desk_log.specs.Times.{times_text}

-- What was written reports the comparison of a log with what a participant is owed (`owed`, the word of the headline)
-- for the inputs of these rows, and no other byte was written.
pub record Compares (c : Comparison) (m : Market) (rs : List TrailRow) (who : ℕ) (log : List ℕ) (before after : Option (List ℕ)) : Type 0 where
  pub items : List Input
  pub inputs : AreOf rs items
  pub owed : List Owed
  pub owes : owed_views owed ≡ owed_of m who rs items
  pub reading : Reading
  pub read : IsReading m.participants.venue (name_of m.participants who) log reading
  pub count : ℕ
  pub says : Says c reading.conflict count (texts_in log reading.once.items) (owed_texts m who items)
  pub written : Appends before after (report m.participants.venue (name_of m.participants who) log (record { comparison = c; count = count }) owed reading
      ++ times_text m.participants.venue (name_of m.participants who) log c rs reading)

-- The application messages of a log from the venue to the participant, each once by era and number, in order, have the
-- texts of what it is owed.
pub record Agrees (m : Market) (rs : List TrailRow) (who : ℕ) (log : List ℕ) : Type 0 where
  pub items : List Input
  pub inputs : AreOf rs items
  pub once : List Logged
  pub each : IsOnce (messages_in m.participants.venue (name_of m.participants who) log) once
  pub same : texts_in log once ≡ owed_texts m who items

-- no numbered frame of the log goes from the venue to the participant
abbrev pub HasNone : Market → ℕ → List ℕ → Type 0
HasNone m who log = numbered_in m.participants.venue (name_of m.participants who) log (bodies_in log) ≡ []

abbrev pub IsRefused : LogFault → Type 0 → Type 0
IsRefused Memory P = Unit {0}
IsRefused Output P = Unit {0}
IsRefused (NoLog found) P = P
