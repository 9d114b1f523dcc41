-- The section of the trades of linked orders (`surveillance`): up to 200 in one table; above, in folds of 200, up to
-- 10,000.
use Rattle.std.specs.Prelude.{ℕ, ◌-◌, ◌==◌, Bool, true, false, List, [], ◌∷◌, length, nat_le, take, decimal, if◌then◌else◌}
use Rattle.std.specs.List.{flat_map}
use Rattle.page_text.specs.Parts.{Part}
use Rattle.participants.specs.ParticipantFile.{ParticipantFile}
use Rattle.participants.specs.Relations.{name_of}
use Rattle.sef_moment.specs.Utc.{utc_text}
use Rattle.surveillance.specs.declared.pairs.LinkedTrade.{LinkedTrade}
use Rattle.alarm_sections.specs.declared.template.TheConstants.{BY_CLOCK, BY_MESSAGE, CELL_END, LINKED, LIST_END, LINKED_TIMES, LINKED_TRADE, MORE_LINKED, NO_LINKED, SECTION_END, TABLE_OF_LINKED, TRADE_ALONE, TRADE_LINK}
use Rattle.day_sections.specs.Folds.{most_folded, whole_or_folded}
use Rattle.day_sections.specs.Values.{is_listed, row_part}
use Rattle.day_tables.specs.Parts.{framed, plain_part}
use Rattle.day_tables.specs.Values.{clock_text, grouped}

-- its number: a link, if it is on the page

abbrev pub trade_link : ℕ → Part
trade_link n = record { template = TRADE_LINK.now; values = decimal n ∷ decimal n ∷ decimal n ∷ [] }

abbrev pub trade_alone : ℕ → Part
trade_alone n = record { template = TRADE_ALONE.now; values = decimal n ∷ decimal n ∷ [] }

abbrev pub trade_part : ℕ → Part
trade_part n = if is_listed n then trade_link n else trade_alone n

-- its parties, and when both orders entered, with the dates in a trail of several
abbrev pub pair_part : ParticipantFile → Bool → LinkedTrade → Part
pair_part file dated t = record { template = LINKED_TRADE.now; values = name_of file t.buyer ∷ name_of file t.seller ∷ clock_text dated (utc_text t.first.moment) ∷ clock_text dated (utc_text t.second.moment) ∷ [] }

-- whether the second entered at a row of the clock
abbrev pub held_part : Bool → Part
held_part true = plain_part BY_CLOCK.now
held_part false = plain_part BY_MESSAGE.now

abbrev pub times_part : LinkedTrade → Part
times_part t = record { template = LINKED_TIMES.now; values = grouped t.between ∷ grouped t.delay ∷ [] }

abbrev pub linked_parts : ParticipantFile → Bool → Bool → LinkedTrade → List Part
linked_parts file shown dated t = trade_part t.trade ∷ pair_part file dated t ∷ held_part t.is_held ∷ times_part t ∷ row_part shown t.first.row ∷ row_part shown t.second.row ∷ plain_part CELL_END.now ∷ []

abbrev pub count_part : List LinkedTrade → Part
count_part ts = record { template = LINKED.now; values = grouped (length ts) ∷ [] }

-- a table of some
abbrev pub table_parts : ParticipantFile → Bool → Bool → List LinkedTrade → List Part
table_parts file shown dated ts = framed (plain_part TABLE_OF_LINKED.now) (flat_map (linked_parts file shown dated) ts) (plain_part LIST_END.now)

-- the end of the section: whether all are there, or how many more there are
abbrev pub more_part : ℕ → Part
more_part more = record { template = MORE_LINKED.now; values = grouped more ∷ [] }

abbrev pub end_part : ℕ → Part
end_part n = if nat_le n most_folded then plain_part SECTION_END.now else more_part (n - most_folded)

abbrev pub some_linked : ParticipantFile → Bool → Bool → List LinkedTrade → List Part
some_linked file shown dated ts = framed (count_part ts) (whole_or_folded (table_parts file shown dated) (take most_folded ts)) (end_part (length ts))

abbrev pub linked_trades_parts : ParticipantFile → Bool → Bool → List LinkedTrade → List Part
linked_trades_parts file shown dated ts = if length ts == 0 then plain_part NO_LINKED.now ∷ [] else some_linked file shown dated ts
