-- A desk's own log of messages against what it was owed.
use Rattle.std.specs.Prelude.{◌≡◌, ◌≢◌, ℕ, List, Option, None, Some}
use Rattle.participants.specs.Relations.{find_participant}
use Rattle.venue_rules.specs.Market.{Market}
use Rattle.venue_rules.specs.declared.trail.TrailRow.{TrailRow}
use Rattle.desk_log.specs.Compares.{Agrees, Compares, HasNone}
use Rattle.desk_log.specs.Frames.{separated}
use Rattle.desk_log.specs.declared.comparing.Comparison.{Comparison}
use Rattle.desk_log.specs.declared.comparing.Comparison.TheVariants.{All}
use Rattle.trail_questions.specs.declared.fault.Unknown.{Unknown}
use Rattle.trail_questions.specs.declared.fault.Unknown.TheVariants.{Log, Recipient}

-- all messages that the desk was owed are in its log, in order, and the output says so
pub record AgreesWith (desk log : List ℕ) (m : Market) (rows : List TrailRow) (before after : Option (List ℕ)) : Type 0 where
  pub who : ℕ
  pub found : find_participant m.participants desk ≡ Some who
  pub compares : Compares All m rows who (separated log) before after
  pub agrees : Agrees m rows who (separated log)

-- they are not, and the output says how far they are
pub record DiffersFrom (desk log : List ℕ) (m : Market) (rows : List TrailRow) (before after : Option (List ℕ)) : Type 0 where
  pub who : ℕ
  pub found : find_participant m.participants desk ≡ Some who
  pub how : Comparison
  pub apart : how ≢ All
  pub compares : Compares how m rows who (separated log) before after

-- no frame of the log goes from the venue to the desk
pub record HasNoFrame (desk log : List ℕ) (m : Market) : Type 0 where
  pub who : ℕ
  pub found : find_participant m.participants desk ≡ Some who
  pub none : HasNone m who (separated log)

-- nobody has the desk's name, or the log is none of it
abbrev pub IsUnknownDesk : (desk log : List ℕ) → Market → Unknown → Type 0
IsUnknownDesk desk log m Recipient = find_participant m.participants desk ≡ None
IsUnknownDesk desk log m (Log lack) = HasNoFrame desk log m
IsUnknownDesk desk log m _ = ⊥
