-- The text of alarms.
--
--   As lines:
--       alarms: 2; cancelled_within_ms 1000, orders_per_trade 20, ..
--       self-trade with a held side, row 10 at 20250303-14:30:35.000: buyer ALPHA, seller ALPHA, T4
--       next order after a refusal, row 13 at 20250303-14:30:41.000: BETA, O9, 1 ms after the refusal in row 12
--   As a table for a spreadsheet (RFC 4180):
--       alarm,row,moment_utc,participant,others,trade,order,found,base,threshold
--       self-trade with a held side,10,20250303-14:30:35.000,ALPHA,ALPHA,T4,,,,
use Rattle.std.specs.Prelude.{ℕ, List, [], ◌∷◌, ◌++◌, length, option_map, Option, Some, None, codes, decimal}
use Rattle.std.specs.List.{flat_map}
use Rattle.csv.specs.Writing.{row_text}
use Rattle.fix_fields.specs.Forms.{price_text}
use Rattle.sef_moment.specs.Utc.{utc_text}
use Rattle.participants.specs.ParticipantFile.{ParticipantFile}
use Rattle.participants.specs.Relations.{name_of}
use Rattle.message_words.specs.Cells.{setup}
use Rattle.message_words.specs.Parts.{Part, parts_text, words_alone}
use Rattle.surveillance.specs.declared.alarm.Alarm.{Alarm}
use Rattle.surveillance.specs.declared.alarm.Figure.{Figure}
use Rattle.surveillance.specs.declared.alarm.Figure.TheVariants as figure
use Rattle.surveillance.specs.declared.alarm.Kind.{Kind}
use Rattle.surveillance.specs.declared.alarm.Kind.TheVariants as kind
use Rattle.surveillance.specs.declared.alarm.Others.{Others}
use Rattle.surveillance.specs.declared.alarm.Others.TheVariants.{None as Nobody, One, Three}
use Rattle.surveillance.specs.declared.alarm.Place.{Place}
use Rattle.surveillance.specs.declared.form.Form.{Form}
use Rattle.surveillance.specs.declared.form.Form.TheVariants.{Lines, Table}
use Rattle.surveillance.specs.declared.thresholds.Thresholds.{Thresholds}

abbrev pub kind_words : Kind → List ℕ
kind_words kind.OwnTrade = codes "self-trade"
kind_words kind.OwnWithHeld = codes "self-trade with a held side"
kind_words kind.RelatedTrade = codes "related trade"
kind_words kind.CancelledSoon = codes "cancelled soon"
kind_words kind.LinkedSoon = codes "linked soon"
kind_words kind.SentAgain = codes "next order after a refusal"
kind_words kind.WorseThanShown = codes "worse than the book shown"
kind_words kind.ManyOrders = codes "many orders"
kind_words kind.ManyCancels = codes "many cancels"
kind_words kind.ManyHits = codes "many hits"
kind_words kind.SameThree = codes "same three"

abbrev pub found_words : Kind → List ℕ
found_words kind.OwnTrade = []
found_words kind.OwnWithHeld = []
found_words kind.RelatedTrade = []
found_words kind.CancelledSoon = codes ", "
found_words kind.LinkedSoon = codes ", "
found_words kind.SentAgain = codes ", "
found_words kind.WorseThanShown = codes ", price "
found_words kind.ManyOrders = codes ", orders "
found_words kind.ManyCancels = codes ", cancelled "
found_words kind.ManyHits = codes ", hit "
found_words kind.SameThree = codes ", requests "

abbrev pub base_words : Kind → List ℕ
base_words kind.LinkedSoon = codes " ms after the delay of "
base_words kind.SentAgain = codes " ms after the refusal in row "
base_words kind.ManyOrders = codes ", trades in the book "
base_words kind.ManyCancels = codes " of "
base_words kind.ManyHits = codes " of "
base_words _ = []

abbrev pub bound_words : Kind → List ℕ
bound_words kind.CancelledSoon = codes " ms after it entered, threshold "
bound_words kind.WorseThanShown = codes ", shown "
bound_words _ = codes ", threshold "

-- a trade names its buyer and its seller
abbrev pub who_words : Kind → List ℕ
who_words kind.OwnTrade = codes ": buyer "
who_words kind.OwnWithHeld = codes ": buyer "
who_words kind.RelatedTrade = codes ": buyer "
who_words kind.LinkedSoon = codes ": buyer "
who_words _ = codes ": "

abbrev pub others_words : Kind → List ℕ
others_words kind.OwnTrade = codes ", seller "
others_words kind.OwnWithHeld = codes ", seller "
others_words kind.RelatedTrade = codes ", seller "
others_words kind.LinkedSoon = codes ", seller "
others_words _ = codes " asks "

abbrev pub others_text : ParticipantFile → Others → Option (List ℕ)
others_text file Nobody = None
others_text file (One a) = Some (name_of file a)
others_text file (Three a b c) = Some (name_of file a ++ (codes " " ++ (name_of file b ++ (codes " " ++ name_of file c))))

abbrev pub figure_text : Figure → List ℕ
figure_text (figure.Number n) = decimal n
figure_text (figure.Price p) = price_text p

abbrev pub row_text_of : Place → List ℕ
row_text_of p = decimal p.row

abbrev pub moment_text_of : Place → List ℕ
moment_text_of p = utc_text p.moment

-- as a line

-- by the name of its participant, and those of the others
abbrev pub alarm_said : Alarm → List ℕ → Option (List ℕ) → List Part
alarm_said a who others =
    words_alone (kind_words a.kind)
    ∷ (codes ", row ", option_map row_text_of a.at)
    ∷ (codes " at ", option_map moment_text_of a.at)
    ∷ (who_words a.kind, Some who)
    ∷ (others_words a.kind, others)
    ∷ (codes ", T", option_map decimal a.trade)
    ∷ (codes ", O", option_map decimal a.order)
    ∷ (found_words a.kind, option_map figure_text a.found)
    ∷ (base_words a.kind, option_map decimal a.base)
    ∷ (bound_words a.kind, option_map figure_text a.bound)
    ∷ []

abbrev pub alarm_words : ParticipantFile → Alarm → List ℕ
alarm_words file a = parts_text (alarm_said a (name_of file a.who) (others_text file a.others))

abbrev pub alarm_line : ParticipantFile → Alarm → List ℕ
alarm_line file a = alarm_words file a ++ codes "\n"

-- how many there are, and the bounds

abbrev pub head_parts : Thresholds → ℕ → List Part
head_parts b many =
    (codes "alarms: ", Some (decimal many))
    ∷ (codes "; cancelled_within_ms ", Some (decimal b.cancelled_within_ms))
    ∷ (codes ", orders_per_trade ", Some (decimal b.orders_per_trade))
    ∷ (codes ", cancelled_percent ", Some (decimal b.cancelled_percent))
    ∷ (codes ", hit_percent ", Some (decimal b.hit_percent))
    ∷ (codes ", fewest_for_ratio ", Some (decimal b.fewest_for_ratio))
    ∷ (codes ", same_three_requests ", Some (decimal b.same_three_requests))
    ∷ (codes ", linked_within_ms ", Some (decimal b.linked_within_ms))
    ∷ words_alone (codes "\n")
    ∷ []

abbrev pub head_line : Thresholds → ℕ → List ℕ
head_line b many = parts_text (head_parts b many)

-- as a row of a table

abbrev pub cell : Option (List ℕ) → List ℕ
cell None = []
cell (Some text) = text

abbrev pub numbered : List ℕ → Option ℕ → Option (List ℕ)
numbered prefix None = None
numbered prefix (Some n) = Some (prefix ++ decimal n)

abbrev pub subject_fields : ParticipantFile → Alarm → List (List ℕ)
subject_fields file a =
    kind_words a.kind
    ∷ cell (option_map row_text_of a.at)
    ∷ cell (option_map moment_text_of a.at)
    ∷ name_of file a.who
    ∷ cell (others_text file a.others)
    ∷ cell (numbered (codes "T") a.trade)
    ∷ cell (numbered (codes "O") a.order)
    ∷ []

abbrev pub figure_fields : Alarm → List (List ℕ)
figure_fields a = cell (option_map figure_text a.found) ∷ cell (option_map decimal a.base) ∷ cell (option_map figure_text a.bound) ∷ []

abbrev pub alarm_fields : ParticipantFile → Alarm → List (List ℕ)
alarm_fields file a = subject_fields file a ++ figure_fields a

abbrev pub field_names : List (List ℕ)
field_names = codes "alarm" ∷ codes "row" ∷ codes "moment_utc" ∷ codes "participant" ∷ codes "others" ∷ codes "trade" ∷ codes "order" ∷ codes "found" ∷ codes "base" ∷ codes "threshold" ∷ []

abbrev pub alarm_row : ParticipantFile → Alarm → List ℕ
alarm_row file a = row_text setup (alarm_fields file a)

-- in a form

abbrev pub head_text : Form → Thresholds → ℕ → List ℕ
head_text Lines b many = head_line b many
head_text Table b many = row_text setup field_names

abbrev pub alarm_text : Form → ParticipantFile → Alarm → List ℕ
alarm_text Lines file a = alarm_line file a
alarm_text Table file a = alarm_row file a

-- of all alarms
abbrev pub watch_text : Form → Thresholds → ParticipantFile → List Alarm → List ℕ
watch_text form b file alarms = head_text form b (length alarms) ++ flat_map (alarm_text form file) alarms
