-- What is written of a trail.
use Rattle.std.specs.Prelude.{◌≡◌, ℕ, List, Option}
use Rattle.std.specs.Io.KnownBytes.{Appends}
use Rattle.page_text.specs.Parts.{page_of}
use Rattle.row_replay.specs.Inputs.{AreOf}
use Rattle.trail_digest.specs.Trail.{Trail}
use Rattle.venue_core.specs.Replay.{AreEmitted}
use Rattle.venue_rules.specs.declared.trail.TrailRow.{TrailRow}
use Rattle.venue_rules.specs.Facts.{History}
use Rattle.venue_rules.specs.Market.{Market}
use Rattle.venue_rules.specs.Run.{Input, run}
use Rattle.day_events.specs.Bests.{bests}
use Rattle.day_events.specs.Days.{events, shown}
use Rattle.day_page.specs.Rows.{listed}
use Rattle.day_page.specs.Sections.{Said, page_parts}

-- a page of this history and of these inputs, of which this is said, with the messages that the rows on it spell
pub record IsPage (m : Market) (t : Trail) (h : History) (items : List Input) (d : Said) (page : List ℕ) : Type 0 where
  pub read : List Input
  pub read_of : AreEmitted (listed t.rows) read
  pub is : page ≡ page_of (page_parts m t h items d read)

-- what is said of the run of these inputs, by the replies of that run
abbrev pub said_in : Market → List TrailRow → List Input → Said
said_in m rs is = record { events = events m rs is; shown = shown m rs is; bests = bests m rs is }

-- The page of the run of these rows' inputs. The messages that the rows on it spell are those inputs too, where the
-- rows are those of a run.
pub record IsDay (m : Market) (t : Trail) (page : List ℕ) : Type 0 where
  pub items : List Input
  pub emitted : AreOf t.rows items
  pub read : List Input
  pub read_of : AreOf (listed t.rows) read
  pub is : page ≡ page_of (page_parts m t (run m items).history items (said_in m t.rows items) read)

-- that page was written, and no other byte
pub record EmitsPage (m : Market) (t : Trail) (before after : Option (List ℕ)) : Type 0 where
  pub page : List ℕ
  pub made : IsDay m t page
  pub written : Appends before after page
