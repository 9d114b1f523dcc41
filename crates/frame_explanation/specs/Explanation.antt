-- The explanation of a log: the first to read.
use Rattle.std.specs.Prelude.{ℕ, ◌≡◌, List, ◌++◌, length, map}
use Rattle.std.specs.List.{flat_map}
use Rattle.fix_session.specs.Reader.{Reader}
use Rattle.participants.specs.ParticipantFile.{ParticipantFile}
use Rattle.venue_rules.specs.Market.{Market}
use Rattle.venue_world.specs.Seen.{Seen, Shows}
use Rattle.venue_world.specs.World.{fresh_world}
use Rattle.frame_explanation.specs.declared.fault.ExplainFault.{ExplainFault}
use Rattle.frame_explanation.specs.declared.fault.ExplainFault.TheVariants.{Memory, Output}
use Rattle.frame_explanation.specs.declared.log_items.LogItem.{LogItem}
use Rattle.frame_explanation.specs.declared.log_items.Heard.{Heard}
use Rattle.frame_explanation.specs.Frames.{found_in, separated}
use Rattle.frame_explanation.specs.Hearing.{HearsAll, item_of}
use Rattle.frame_explanation.specs.Listing.{items, seen}
use Rattle.frame_explanation.specs.Summary.{summary}
use Rattle.frame_explanation.specs.Text.{head, heard_text}

-- A new world of this market heard what is listed, one after another; each session's answer and what each participant
-- is sent are the world's.
pub record Hears (m : Market) (listed : List LogItem) (heard : List Heard) : Type 0 where
  pub old : Seen
  pub new : Seen
  pub fresh : Shows old (fresh_world m)
  pub items_are : map item_of heard ≡ listed
  pub hears : HearsAll old new heard

-- What is listed is what was found in a log, in order, with what is assumed.
pub record IsOf (m : Market) (names : ParticipantFile) (log : List ℕ) (heard : List Heard) : Type 0 where
  pub listed : List LogItem
  pub lists : map seen listed ≡ items names log (found_in log)
  pub hears : Hears m listed heard

-- the text of it
abbrev pub explanation : Reader → ParticipantFile → List ℕ → List Heard → List ℕ
explanation r names log heard = head (length log) (found_in log) ++ (summary r names heard ++ flat_map (heard_text r names) heard)

-- the text explains the log
pub record Explains (m : Market) (names : ParticipantFile) (log text : List ℕ) : Type 0 where
  pub heard : List Heard
  pub of : IsOf m names (separated log) heard
  pub says : (r : Reader) → text ≡ explanation r names (separated log) heard

-- the fact, unless the output failed
abbrev pub UnlessOutput : ExplainFault → Type 0 → Type 0
UnlessOutput Output fact = Unit {0}
UnlessOutput Memory fact = fact
