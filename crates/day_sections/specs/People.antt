-- The section of the participants: what each did on the day.
use Rattle.std.specs.Prelude.{ℕ, ◌+◌, ◌*◌, ◌/◌, ◌%◌, ◌==◌, List, [], ◌∷◌, ◌++◌, count_by, decimal, length, Some, if◌then◌else◌}
use Rattle.page_text.specs.Parts.{Part}
use Rattle.participants.specs.ParticipantFile.{ParticipantFile}
use Rattle.participants.specs.Relations.{name_of}
use Rattle.venue_rules.specs.declared.trail.TradeFact.{TradeFact}
use Rattle.venue_rules.specs.declared.trail.TrailRow.{TrailRow}
use Rattle.day_events.specs.declared.event.Event.{Event}
use Rattle.day_sections.specs.declared.template.TheConstants.{PEOPLE, PEOPLE_END, PERSON, PERSON_QUOTES, PERSON_TRADES}
use Rattle.day_sections.specs.declared.counts.Kind.TheVariants as kind
use Rattle.day_sections.specs.Counts.{counts, is_sent}
use Rattle.day_tables.specs.Parts.{each_from, framed, plain_part}
use Rattle.surveillance.specs.declared.deeds.Act.TheVariants as act
use Rattle.surveillance.specs.declared.deeds.Deed.{Deed}
use Rattle.surveillance.specs.Deeds.{book_trades, orders_times, times}
use Rattle.day_sections.specs.Rooms.{is_made, rooms}
use Rattle.day_tables.specs.Values.{grouped}

abbrev pub bought_by : ℕ → List TradeFact → ℕ
bought_by place ts = count_by (λ t. t.buyer == place) ts

abbrev pub sold_by : ℕ → List TradeFact → ℕ
sold_by place ts = count_by (λ t. t.seller == place) ts

-- Ratios, with one decimal, cut and not rounded; empty where there is nothing to compare with.

abbrev pub tenths : ℕ → List ℕ
tenths n = grouped (n / 10) ++ (46 ∷ decimal (n % 10))

abbrev pub cut : ℕ → ℕ → List ℕ
cut number base = if base == 0 then [] else tenths (number / base)

abbrev pub ratio : ℕ → ℕ → List ℕ
ratio found base = cut (found * 10) base

abbrev pub percent : ℕ → ℕ → List ℕ
percent found base = cut (found * 1000) base

-- of its orders, those that it cancelled
abbrev pub cancel_ratio : List Deed → ℕ → List ℕ
cancel_ratio ds place = percent (times act.Cancelled place ds) (times act.Entered place ds)

-- its orders and replacements, for each of its trades in the book
abbrev pub order_ratio : List TradeFact → List Deed → ℕ → List ℕ
order_ratio ts ds place = ratio (orders_times place ds) (book_trades place ts)

-- of the rooms that it quoted in, those where it was hit
abbrev pub hit_ratio : List Deed → ℕ → List ℕ
hit_ratio ds place = percent (times act.Hit place ds) (times act.Quoted place ds)

-- The row of a participant.

abbrev pub sent_part : ParticipantFile → List TrailRow → List Event → ℕ → Part
sent_part file rs es place = record {
  template = PERSON.now;
  values = decimal (place + 1) ∷ name_of file place
      ∷ grouped (count_by (is_sent (Some place)) rs) ∷ grouped (count_by (counts kind.Refused (Some place)) es)
      ∷ grouped (count_by (counts kind.Entered (Some place)) es) ∷ grouped (count_by (counts kind.Replaced (Some place)) es) ∷ grouped (count_by (counts kind.Cancelled (Some place)) es) ∷ [];
}

abbrev pub traded_part : List TradeFact → List Event → List Deed → ℕ → Part
traded_part ts asked ds place = record {
  template = PERSON_TRADES.now;
  values = cancel_ratio ds place ∷ order_ratio ts ds place ∷ grouped (bought_by place ts) ∷ grouped (sold_by place ts) ∷ grouped (count_by (is_made place) asked) ∷ [];
}

abbrev pub quoted_part : List Event → List Deed → ℕ → Part
quoted_part es ds place = record {
  template = PERSON_QUOTES.now;
  values = grouped (count_by (counts kind.Asked (Some place)) es) ∷ grouped (times act.Quoted place ds) ∷ grouped (count_by (counts kind.Quotes (Some place)) es)
      ∷ grouped (count_by (counts kind.Hits (Some place)) es) ∷ hit_ratio ds place ∷ [];
}

abbrev pub person_parts : ParticipantFile → List TrailRow → List TradeFact → List Event → List Event → List Deed → ℕ → List Part
person_parts file rs ts es asked ds place = sent_part file rs es place ∷ traded_part ts asked ds place ∷ quoted_part es ds place ∷ []

abbrev pub people_part : ParticipantFile → Part
people_part file = record { template = PEOPLE.now; values = grouped (length file.names) ∷ [] }

abbrev pub people_parts : ParticipantFile → List TrailRow → List TradeFact → List Event → List Deed → List Part
people_parts file rs ts es ds =
    framed (people_part file) (each_from (person_parts file rs ts es (rooms es) ds) 0 (length file.names)) (plain_part PEOPLE_END.now)
