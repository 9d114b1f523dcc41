-- Sections joined to a page.
use Rattle.std.proofs.Common.{◌≡◌, ℕ, Bool, List, [], ◌∷◌, ◌++◌, length, sym, ap, ◌∙◌, subst, Result, Ok, Err, IsErrAnd, IfOk, OnOk}
use Rattle.day_events.specs.declared.best.Best.{Best}
use Rattle.day_events.specs.declared.event.Event.{Event}
use Rattle.day_events.specs.declared.shown.ShownPrice.{ShownPrice}
use Rattle.instruments.specs.declared.instruments.Instrument.{Instrument}
use Rattle.page_text.specs.Parts.{Part, page_of, with_part, with_parts}
use Rattle.participants.specs.ParticipantFile.{ParticipantFile}
use Rattle.row_replay.specs.Laws.{AreTheirs}
use Rattle.trail_digest.specs.Trail.{Trail}
use Rattle.venue_core.specs.State.{State}
use Rattle.venue_rules.specs.declared.trail.TradeFact.{TradeFact}
use Rattle.venue_rules.specs.declared.trail.TrailRow.{TrailRow}
use Rattle.venue_rules.specs.Facts.{History}
use Rattle.venue_rules.specs.Market.{Market}
use Rattle.venue_rules.specs.Readings.{trade_facts}
use Rattle.venue_rules.specs.Run.{Input, run}
use Rattle.surveillance.specs.declared.alarm.Alarm.{Alarm}
use Rattle.surveillance.specs.declared.deeds.Deed.{Deed}
use Rattle.surveillance.specs.declared.findings.Findings.{Findings}
use Rattle.surveillance.specs.declared.pairs.LinkedTrade.{LinkedTrade}
use Rattle.surveillance.specs.declared.thresholds.Thresholds.{Thresholds}
use Rattle.surveillance.specs.Alarms.{alarms_of, looked}
use Rattle.surveillance.specs.Deeds.{deeds}
use Rattle.surveillance.specs.Pairs.{linked_in}
use Rattle.surveillance.specs.Thresholds.{usual}
use Rattle.alarm_sections.specs.Alarms.{alarms_parts}
use Rattle.day_sections.specs.Figures.{figures_part}
use Rattle.alarm_sections.specs.Linked.{linked_trades_parts}
use Rattle.cross_sections.specs.declared.crossed.Crossed.{Crossed}
use Rattle.cross_sections.specs.Crosses.{crosses}
use Rattle.cross_sections.specs.Section.{crosses_parts}
use Rattle.day_sections.specs.People.{people_parts}
use Rattle.day_sections.specs.Refusals.{causes, refusals_parts}
use Rattle.day_sections.specs.Reports.{reports}
use Rattle.day_sections.specs.Values.{are_shown, is_dated}
use Rattle.request_sections.specs.Requests.{requests_parts}
use Rattle.day_tables.specs.Bulletin.{bulletin_parts}
use Rattle.day_tables.specs.Parts.{plain_part}
use Rattle.instrument_charts.specs.declared.deals.Deal.{Deal}
use Rattle.instrument_charts.specs.declared.ladder.Rest.{Rest}
use Rattle.instrument_charts.specs.Deals.{deals, first_moment, last_moment}
use Rattle.instrument_charts.specs.Instruments.{instruments_parts}
use Rattle.instrument_charts.specs.Rests.{rests}
use Rattle.day_page.specs.declared.template.TheConstants.{END}
use Rattle.day_events.specs.Days.{ArePriced}
use Rattle.day_page.specs.Printed.{IsDay, IsPage, said_in}
use Rattle.day_page.specs.Rows.{AddsSection, listed, rows_parts}
use Rattle.day_page.specs.Sections.{Found, Said, answered_parts, charts_parts, counts_parts, crossed_parts, found_in, found_of, head_parts, law_parts, page_parts, page_with, reported_parts, tables_parts, watched_parts}
use Rattle.day_page.proofs.RowByRow.{follow}

pub in_turn : (page one last : List ℕ) (ps qs : List Part) → one ≡ with_parts page ps → last ≡ with_parts one qs → last ≡ with_parts page (ps ++ qs)
in_turn page one last ps qs h k = k ∙ (ap (λ (x : List ℕ). with_parts x qs) h ∙ sym (follow page ps qs))

pub three_parts : (page one two last : List ℕ) (a b c : Part) → one ≡ with_part page a → two ≡ with_part one b → last ≡ with_part two c → last ≡ with_parts page (a ∷ b ∷ c ∷ [])
three_parts page one two last a b c h k l = l ∙ ap (λ (x : List ℕ). with_part x c) (k ∙ ap (λ (x : List ℕ). with_part x b) h)

-- what is said of a success, of a failure that is returned: nothing
pub err_says_nothing : {T E : Type 0} (Q : E → Type 0) (r : Result T E) (P : Type 0) → IsErrAnd r Q → OnOk r P
err_says_nothing Q (Ok x) P h = absurd h
err_says_nothing Q (Err y) P h = tt

-- what surveillance finds, by what the venue gives
pub found_is : {E : Type 0} (r : Result Findings E) (m : Market) (d : Said) (b : Thresholds) (p : ParticipantFile) (x : List Instrument) (ts facts : List TradeFact) (es : List Event) (ps : List ShownPrice)
    → b ≡ usual → p ≡ m.participants → x ≡ m.instruments → ts ≡ facts → es ≡ d.events → ps ≡ d.shown
    → IfOk r (λ f. f.alarms.items ≡ alarms_of b (record { participants = p; instruments = x }) ts es ps) → IfOk r (λ f. f.linked.items ≡ linked_in (record { participants = p; instruments = x }) (looked es) ts) → IfOk r (λ f. f.deeds.items ≡ deeds es)
    → IfOk r (λ f. found_of f ≡ found_in m facts d)
found_is (Ok f) m d b p x ts facts es ps eb ep ex et ee es' alarms linked done = λ j. record {
  alarms = (alarms ∙ (λ k. alarms_of (eb k) (record { participants = ep k; instruments = ex k }) (et k) (ee k) (es' k))) j;
  linked = (linked ∙ (λ k. linked_in (record { participants = ep k; instruments = ex k }) (looked (ee k)) (et k))) j;
  deeds = (done ∙ ap deeds ee) j;
}
found_is (Err y) m d b p x ts facts es ps eb ep ex et ee es' alarms linked done = tt

-- the figures, the rules and the bulletin, by what the venue gives
pub counts_are : (m : Market) (rs : List TrailRow) (h : History) (d : Said) (linked : List LinkedTrade) (p : ParticipantFile) (x : List Instrument) (ts : List TradeFact) (es : List Event) (page one two last : List ℕ)
    → p ≡ m.participants → x ≡ m.instruments → ts ≡ trade_facts h.facts → es ≡ d.events
    → one ≡ with_part page (figures_part p rs ts es) → two ≡ with_parts one (law_parts m h d linked) → last ≡ with_parts two (bulletin_parts x ts) → last ≡ with_parts page (counts_parts m rs h d linked)
counts_are m rs h d linked p x ts es page one two last ep ex et ee figures law bulletin =
    in_turn one two last (law_parts m h d linked) (bulletin_parts x ts) law bulletin
    ∙ (ap (λ (y : List ℕ). with_parts y (law_parts m h d linked ++ bulletin_parts x ts)) figures
    ∙ (λ j. with_parts page (figures_part (ep j) rs (et j) (ee j) ∷ (law_parts m h d linked ++ bulletin_parts (ex j) (et j)))))

-- the instruments, by what the venue and the rows give
pub charts_are : (m : Market) (rs : List TrailRow) (h : History) (rp : List Event) (bs given : List Best) (x : List Instrument) (first last : ℕ) (ts : List TradeFact) (made ds : List Deal) (found rested : List Rest) (page after : List ℕ)
    → x ≡ m.instruments → first ≡ first_moment rs → last ≡ last_moment rs → ts ≡ trade_facts h.facts → made ≡ deals ts rp → ds ≡ made → given ≡ bs → found ≡ rests h.facts (length m.instruments) → rested ≡ found
    → after ≡ with_parts page (instruments_parts x (record { first = first; last = last; deals = ds; bests = given; rests = rested })) → after ≡ with_parts page (charts_parts m rs h rp bs)
charts_are m rs h rp bs given x first last ts made ds found rested page after ex ef el et em ed eg ew er is =
    is
    ∙ (λ j. with_parts page (instruments_parts (ex j) (record { first = ef j; last = el j; deals = (ed ∙ (em ∙ ap (λ (l : List TradeFact). deals l rp) et)) j; bests = eg j; rests = (er ∙ ew) j })))

-- the counts, the instruments and the trades
pub tables_are : (m : Market) (rs : List TrailRow) (h : History) (d : Said) (linked : List LinkedTrade) (rp : List Event) (page one two last : List ℕ)
    → rp ≡ reports d.events → one ≡ with_parts page (counts_parts m rs h d linked) → two ≡ with_parts one (charts_parts m rs h rp d.bests) → last ≡ with_parts two (reported_parts m rs h rp linked)
    → last ≡ with_parts page (tables_parts m rs h d linked)
tables_are m rs h d linked rp page one two last er counts charts reported =
    in_turn page one last (counts_parts m rs h d linked) (charts_parts m rs h rp d.bests ++ reported_parts m rs h rp linked) counts (in_turn one two last (charts_parts m rs h rp d.bests) (reported_parts m rs h rp linked) charts reported)
    ∙ (λ j. with_parts page (counts_parts m rs h d linked ++ (charts_parts m rs h (er j) d.bests ++ reported_parts m rs h (er j) linked)))

-- the requests, the refusals and the participants
pub answered_are : (m : Market) (rs : List TrailRow) (h : History) (d : Said) (ds : List Deed) (linked : Bool) (p : ParticipantFile) (x : List Instrument) (ts : List TradeFact) (asked refused counted : List Event) (ps : List ShownPrice) (page one two last : List ℕ)
    → p ≡ m.participants → x ≡ m.instruments → ts ≡ trade_facts h.facts → linked ≡ are_shown rs → asked ≡ d.events → refused ≡ d.events → counted ≡ d.events → ps ≡ d.shown
    → one ≡ with_parts page (requests_parts p x rs asked ps) → two ≡ with_parts one (refusals_parts p linked refused (causes refused)) → last ≡ with_parts two (people_parts p rs ts counted ds)
    → last ≡ with_parts page (answered_parts m rs h d ds)
answered_are m rs h d ds linked p x ts asked refused counted ps page one two last ep ex et el ea er ec es requests refusals people =
    in_turn page one last (requests_parts p x rs asked ps) (refusals_parts p linked refused (causes refused) ++ people_parts p rs ts counted ds) requests
    (in_turn one two last (refusals_parts p linked refused (causes refused)) (people_parts p rs ts counted ds) refusals people)
    ∙ (λ j. with_parts page (requests_parts (ep j) (ex j) rs (ea j) (es j) ++ (refusals_parts (ep j) (el j) (er j) (causes (er j)) ++ people_parts (ep j) rs (et j) (ec j) ds)))

-- the trades of linked orders, the crosses and the alarms
pub watched_are : (m : Market) (rs : List TrailRow) (items : List Input) (d : Said) (f : Found) (p : ParticipantFile) (a b t : Bool) (linked : List LinkedTrade) (alarms : List Alarm) (page one two last : List ℕ)
    → p ≡ m.participants → a ≡ are_shown rs → b ≡ are_shown rs → t ≡ is_dated rs → linked ≡ f.linked → alarms ≡ f.alarms
    → one ≡ with_parts page (linked_trades_parts p a t linked) → two ≡ with_parts one (crossed_parts m rs items d.events) → last ≡ with_parts two (alarms_parts p b alarms)
    → last ≡ with_parts page (watched_parts m rs items d f)
watched_are m rs items d f p a b t linked alarms page one two last ep ea eb et el er pairs crossed raised =
    let others = crossed_parts m rs items d.events in
    in_turn page one last (linked_trades_parts p a t linked) (others ++ alarms_parts p b alarms) pairs (in_turn one two last others (alarms_parts p b alarms) crossed raised)
    ∙ (λ j. with_parts page (linked_trades_parts (ep j) (ea j) (et j) (el j) ++ (others ++ alarms_parts (ep j) (eb j) (er j))))

-- the crosses, by what the venue and the rows give
pub crossed_are : (m : Market) (rs : List TrailRow) (items : List Input) (es given : List Event) (p : ParticipantFile) (x : List Instrument) (a t : Bool) (made cs : List Crossed) (page last : List ℕ)
    → p ≡ m.participants → x ≡ m.instruments → given ≡ es → a ≡ are_shown rs → t ≡ is_dated rs → made ≡ crosses x items given → cs ≡ made
    → last ≡ with_parts page (crosses_parts (record { market = record { participants = p; instruments = x }; shown = a; dated = t }) cs) → last ≡ with_parts page (crossed_parts m rs items es)
crossed_are m rs items es given p x a t made cs page last ep ex ee ea et em ec is =
    let all : cs ≡ crosses m.instruments items es = ec ∙ (em ∙ (λ j. crosses (ex j) items (ee j))) in
    is ∙ (λ j. with_parts page (crosses_parts (record { market = record { participants = ep j; instruments = ex j }; shown = ea j; dated = et j }) (all j)))

-- the page, section by section
pub page_is : (m : Market) (t : Trail) (h : History) (items : List Input) (d : Said) (f : Found) (p : ParticipantFile) (x : List Instrument) (blank one two three four five last : List ℕ)
    → f ≡ found_in m (trade_facts h.facts) d → p ≡ m.participants → x ≡ m.instruments → blank ≡ [] → one ≡ with_parts blank (head_parts (record { participants = p; instruments = x }) t)
    → two ≡ with_parts one (tables_parts m t.rows h d f.linked) → three ≡ with_parts two (answered_parts m t.rows h d f.deeds) → four ≡ with_parts three (watched_parts m t.rows items d f)
    → AddsSection p t.rows four five → last ≡ with_part five (plain_part END.now) → IsPage m t h items d last
page_is m t h items d f p x blank one two three four five last ef ep ex none head tables answered watched rows end =
    let section : AddsSection m.participants t.rows four five = subst (λ (q : ParticipantFile). AddsSection q t.rows four five) ep rows in
    let list = rows_parts m.participants t.rows section.read in
    let tail = list ++ plain_part END.now ∷ [] in
    let tables_list = tables_parts m t.rows h d f.linked in
    let answered_list = answered_parts m t.rows h d f.deeds in
    let watched_list = watched_parts m t.rows items d f in
    let ended : last ≡ with_parts four tail = in_turn four five last list (plain_part END.now ∷ []) section.added end in
    let from_watched : last ≡ with_parts three (watched_list ++ tail) = in_turn three four last watched_list tail watched ended in
    let from_answered : last ≡ with_parts two (answered_list ++ (watched_list ++ tail)) = in_turn two three last answered_list (watched_list ++ tail) answered from_watched in
    let from_tables : last ≡ with_parts one (tables_list ++ (answered_list ++ (watched_list ++ tail))) = in_turn one two last tables_list (answered_list ++ (watched_list ++ tail)) tables from_answered in
    let all : last ≡ with_parts blank (page_with m t h items d f section.read) =
    in_turn blank one last (head_parts m t) (tables_list ++ (answered_list ++ (watched_list ++ tail))) (head ∙ (λ j. with_parts blank (head_parts (record { participants = ep j; instruments = ex j }) t))) from_tables in
    record {
      read = section.read;
      read_of = section.emitted;
      is = all ∙ (λ j. with_parts (none j) (page_with m t h items d (ef j) section.read));
    }

-- of the day whose rows led to this venue, answered this, showed these prices and changed best prices so
pub day_is : AreTheirs → (m : Market) (t : Trail) (s : State) (d : Said) (page : List ℕ) (are : ArePriced m t.rows s d.events d.shown d.bests)
    → IsPage s.market t (run m are.events.items).history are.events.items d page → IsDay m t page
day_is theirs m t s d page are made =
    let is = are.events.items in
    record {
      items = is;
      emitted = theirs t.rows is are.events.emitted;
      read = made.read;
      read_of = theirs (listed t.rows) made.read made.read_of;
      is = made.is
          ∙ (λ j. page_of (page_parts (are.events.stands.market j) t (run m is).history is (record { events = are.events.answered j; shown = are.events.shown j; bests = are.bests j }) made.read));
    }
