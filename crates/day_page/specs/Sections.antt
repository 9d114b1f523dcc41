-- The head of the page, and the page: each value is a named function of the trail or of the run of its rows.
use Rattle.std.specs.Prelude.{ℕ, ◌-◌, List, [], ◌∷◌, ◌++◌, bytes_eq, codes, length, slice_get, Option, None, Some, option_map, if◌then◌else◌}
use Rattle.day_events.specs.declared.best.Best.{Best}
use Rattle.day_events.specs.declared.event.Event.{Event}
use Rattle.day_events.specs.declared.priced_day.PricedDay.{PricedDay}
use Rattle.day_events.specs.declared.shown.ShownPrice.{ShownPrice}
use Rattle.day_page.specs.declared.style.TheConstants.{STYLE}
use Rattle.day_page.specs.declared.template.TheConstants.{END, HEAD, TOP}
use Rattle.page_text.specs.Parts.{Part}
use Rattle.sef_moment.specs.Utc.{utc_text}
use Rattle.trail_digest.specs.Head.{digest_text, sha256_text}
use Rattle.trail_digest.specs.Trail.{Trail}
use Rattle.venue_rules.specs.declared.trail.TradeFact.{TradeFact}
use Rattle.venue_rules.specs.declared.trail.TrailRow.{TrailRow}
use Rattle.venue_rules.specs.Facts.{History}
use Rattle.venue_rules.specs.Market.{Market}
use Rattle.venue_rules.specs.Readings.{trade_facts}
use Rattle.venue_rules.specs.Run.{Input}
use Rattle.surveillance.specs.declared.alarm.Alarm.{Alarm}
use Rattle.surveillance.specs.declared.deeds.Deed.{Deed}
use Rattle.surveillance.specs.declared.findings.Findings.{Findings}
use Rattle.surveillance.specs.declared.pairs.LinkedTrade.{LinkedTrade}
use Rattle.surveillance.specs.Alarms.{alarms_of, looked}
use Rattle.surveillance.specs.Deeds.{deeds}
use Rattle.surveillance.specs.Pairs.{linked_in}
use Rattle.surveillance.specs.Thresholds.{usual}
use Rattle.rule_counts.specs.Rules.{rules_parts}
use Rattle.alarm_sections.specs.Alarms.{alarms_parts}
use Rattle.day_sections.specs.Figures.{figures_part}
use Rattle.alarm_sections.specs.Linked.{linked_trades_parts}
use Rattle.cross_sections.specs.Crosses.{crosses}
use Rattle.cross_sections.specs.Section.{crosses_parts}
use Rattle.day_sections.specs.Flags.{flags}
use Rattle.day_sections.specs.People.{people_parts}
use Rattle.day_sections.specs.Refusals.{causes, refusals_parts}
use Rattle.day_sections.specs.Reports.{reports}
use Rattle.request_sections.specs.Requests.{requests_parts}
use Rattle.day_sections.specs.Rooms.{rooms}
use Rattle.day_sections.specs.Trades.{trades_parts}
use Rattle.day_sections.specs.Values.{are_shown, is_dated}
use Rattle.day_tables.specs.Bulletin.{bulletin_parts}
use Rattle.day_tables.specs.Parts.{plain_part}
use Rattle.day_tables.specs.Values.{date_in, date_of, grouped, moment_of}
use Rattle.instrument_charts.specs.Deals.{deals, first_moment, last_moment}
use Rattle.instrument_charts.specs.Instruments.{Sheet, instruments_parts}
use Rattle.instrument_charts.specs.Rests.{rests}
use Rattle.day_page.specs.Rows.{rows_parts}

-- the moment of a row, printed
abbrev pub utc_of : Option TrailRow → Option (List ℕ)
utc_of row = option_map (λ (r : TrailRow). utc_text r.moment) row

abbrev pub first_utc : List TrailRow → Option (List ℕ)
first_utc rs = utc_of (slice_get rs 0)

abbrev pub last_utc : List TrailRow → Option (List ℕ)
last_utc rs = utc_of (slice_get rs (length rs - 1))

-- the dates of a trail: that of its first row, and that of its last if it is another

abbrev pub days_from : List ℕ → List ℕ → List ℕ
days_from first last = if bytes_eq first last then first else first ++ (codes " to " ++ last)

abbrev pub days_of : Option (List ℕ) → Option (List ℕ) → List ℕ
days_of None last = codes "(no rows)"
days_of (Some first) last = days_from (date_in first) (date_of last)

abbrev pub days : Trail → List ℕ
days t = days_of (first_utc t.rows) (last_utc t.rows)

abbrev pub top_part : Market → Trail → Part
top_part m t = record { template = TOP.now; values = m.participants.venue ∷ days t ∷ [] }

abbrev pub head_part : Market → Trail → Part
head_part m t = record {
  template = HEAD.now;
  values = m.participants.venue ∷ days t ∷ grouped (length t.rows) ∷ moment_of (first_utc t.rows) ∷ moment_of (last_utc t.rows)
      ∷ grouped (length m.participants.names) ∷ grouped (length m.instruments) ∷ digest_text t
      ∷ sha256_text t.participants ∷ grouped (length t.participants) ∷ sha256_text t.instruments ∷ grouped (length t.instruments) ∷ [];
}

abbrev pub head_parts : Market → Trail → List Part
head_parts m t = top_part m t ∷ plain_part STYLE.now ∷ head_part m t ∷ []

-- what is said of a day: what its answers say, the prices shown with its first quotes, and the changes of its best
-- prices
pub record Said : Type 0 where
  pub events : List Event
  pub shown : List ShownPrice
  pub bests : List Best

-- what surveillance finds in a day: its alarms by the usual bounds, its trades of linked orders, and what its
-- participants did
pub record Found : Type 0 where
  pub alarms : List Alarm
  pub linked : List LinkedTrade
  pub deeds : List Deed

abbrev pub said_of : PricedDay → Said
said_of d = record { events = d.events.items; shown = d.shown.items; bests = d.bests.items }

abbrev pub found_of : Findings → Found
found_of f = record { alarms = f.alarms.items; linked = f.linked.items; deeds = f.deeds.items }

abbrev pub found_in : Market → List TradeFact → Said → Found
found_in m ts d = record { alarms = alarms_of usual m ts d.events d.shown; linked = linked_in m (looked d.events) ts; deeds = deeds d.events }

-- what Part 37 asks, and the day's count
abbrev pub law_parts : Market → History → Said → List LinkedTrade → List Part
law_parts m h d linked = rules_parts m.instruments (record {
  requests = length (rooms d.events);
  trades = trade_facts h.facts;
  events = d.events;
  shown = d.shown;
  linked = linked;
})

-- the day in six figures, the rules and the bulletin
abbrev pub counts_parts : Market → List TrailRow → History → Said → List LinkedTrade → List Part
counts_parts m rs h d linked = figures_part m.participants rs (trade_facts h.facts) d.events ∷ (law_parts m h d linked ++ bulletin_parts m.instruments (trade_facts h.facts))

-- what the instruments' section shows: the trades at the moments of their reports, the changes of best prices, and what
-- rests at the end
abbrev pub charted : Market → List TrailRow → History → List Event → List Best → Sheet
charted m rs h reports bs = record {
  first = first_moment rs;
  last = last_moment rs;
  deals = deals (trade_facts h.facts) reports;
  bests = bs;
  rests = rests h.facts (length m.instruments);
}

abbrev pub charts_parts : Market → List TrailRow → History → List Event → List Best → List Part
charts_parts m rs h reports bs = instruments_parts m.instruments (charted m rs h reports bs)

-- the trades, each with the row that reports it, and those of linked orders with a link to their line
abbrev pub reported_parts : Market → List TrailRow → History → List Event → List LinkedTrade → List Part
reported_parts m rs h reports linked = trades_parts (record {
  participants = m.participants;
  instruments = m.instruments;
  reports = reports;
  flags = flags linked (length (trade_facts h.facts));
  shown = are_shown rs;
  dated = is_dated rs;
}) (trade_facts h.facts)

-- the day in six figures, the rules, the bulletin, the instruments and the trades
abbrev pub tables_parts : Market → List TrailRow → History → Said → List LinkedTrade → List Part
tables_parts m rs h d linked = counts_parts m rs h d linked ++ (charts_parts m rs h (reports d.events) d.bests ++ reported_parts m rs h (reports d.events) linked)

-- the requests for quotes, the refusals and the participants
abbrev pub answered_parts : Market → List TrailRow → History → Said → List Deed → List Part
answered_parts m rs h d ds =
    requests_parts m.participants m.instruments rs d.events d.shown
    ++ (refusals_parts m.participants (are_shown rs) d.events (causes d.events)
    ++ people_parts m.participants rs (trade_facts h.facts) d.events ds)

-- the crosses
abbrev pub crossed_parts : Market → List TrailRow → List Input → List Event → List Part
crossed_parts m rs items es = crosses_parts (record { market = m; shown = are_shown rs; dated = is_dated rs }) (crosses m.instruments items es)

-- the trades of linked orders, the crosses, and the alarms
abbrev pub watched_parts : Market → List TrailRow → List Input → Said → Found → List Part
watched_parts m rs items d f =
    linked_trades_parts m.participants (are_shown rs) (is_dated rs) f.linked
    ++ (crossed_parts m rs items d.events ++ alarms_parts m.participants (are_shown rs) f.alarms)

abbrev pub page_with : Market → Trail → History → List Input → Said → Found → List Input → List Part
page_with m t h items d f read =
    head_parts m t
    ++ (tables_parts m t.rows h d f.linked
    ++ (answered_parts m t.rows h d f.deeds
    ++ (watched_parts m t.rows items d f ++ (rows_parts m.participants t.rows read ++ plain_part END.now ∷ []))))

-- the page of a trail, whose rows have these inputs and led to this history, of which this is said; the rows on it
-- spell these messages
abbrev pub page_parts : Market → Trail → History → List Input → Said → List Input → List Part
page_parts m t h items d read = page_with m t h items d (found_in m (trade_facts h.facts) d) read
