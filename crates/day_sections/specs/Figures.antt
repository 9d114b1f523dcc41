-- The day in six figures: messages, orders, trades, the quantity traded, requests for quotes, and refusals.
use Rattle.std.specs.Prelude.{ℕ, List, [], ◌∷◌, count_by, length, None}
use Rattle.page_text.specs.Parts.{Part}
use Rattle.participants.specs.ParticipantFile.{ParticipantFile}
use Rattle.venue_rules.specs.declared.trail.TradeFact.{TradeFact}
use Rattle.venue_rules.specs.declared.trail.TrailRow.{TrailRow}
use Rattle.day_events.specs.declared.event.Event.{Event}
use Rattle.day_sections.specs.declared.template.TheConstants.{FIGURES}
use Rattle.day_tables.specs.declared.bulletin.Place.TheVariants.{Anywhere, Book, Request}
use Rattle.day_sections.specs.declared.counts.Kind.{Kind}
use Rattle.day_sections.specs.declared.counts.Kind.TheVariants as kind
use Rattle.day_tables.specs.Bulletin.{number, quantity}
use Rattle.day_sections.specs.Counts.{counts, is_sent}
use Rattle.day_sections.specs.Rooms.{rooms}
use Rattle.day_tables.specs.Values.{grouped}

abbrev pub count_all : Kind → List Event → ℕ
count_all k es = count_by (counts k None) es

abbrev pub messages : List TrailRow → ℕ
messages rs = count_by (is_sent None) rs

abbrev pub figures_part : ParticipantFile → List TrailRow → List TradeFact → List Event → Part
figures_part file rs ts es = record {
  template = FIGURES.now;
  values = grouped (messages rs) ∷ grouped (length file.names) ∷ grouped (length rs)
      ∷ grouped (count_all kind.Entered es)
      ∷ grouped (length ts) ∷ grouped (number None Book ts) ∷ grouped (number None Request ts)
      ∷ grouped (quantity None Anywhere ts) ∷ grouped (quantity None Book ts) ∷ grouped (quantity None Request ts)
      ∷ grouped (length (rooms es)) ∷ grouped (count_all kind.Quotes es) ∷ grouped (count_all kind.Hits es)
      ∷ grouped (count_all kind.Refused es) ∷ [];
}
