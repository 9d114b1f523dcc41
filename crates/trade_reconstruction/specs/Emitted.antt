-- The events of a day, row by row, and the evidence for one of its trades, or for all.
use Rattle.std.specs.Prelude.{◌≡◌, ◌⊎◌, ℕ, suc, ◌+◌, ◌-◌, ◌<◌, ◌==◌, true, List, [], ◌∷◌, ◌++◌, Option, None, Some, codes, length, slice_get, take, if◌then◌else◌, ⊤}
use Rattle.std.specs.List.{flat_map}
use Rattle.std.specs.Io.KnownBytes.{Appends, Keeps}
use Rattle.instruments.specs.declared.instruments.Instrument.{Instrument}
use Rattle.venue_rules.specs.declared.trail.Taken.{Taken}
use Rattle.venue_rules.specs.declared.trail.TradeFact.{TradeFact}
use Rattle.venue_rules.specs.declared.trail.TrailRow.{TrailRow}
use Rattle.venue_rules.specs.Answer.{Answer}
use Rattle.venue_rules.specs.Facts.{History, no_history}
use Rattle.venue_rules.specs.Market.{Market}
use Rattle.venue_rules.specs.Readings.{trade_facts}
use Rattle.venue_rules.specs.Run.{Input, Message, Tick, after, answer_input, rows, run}
use Rattle.venue_core.specs.Replay.{AreFitting, AreEmitted, Emits}
use Rattle.venue_core.specs.VenueFacts.{IsHistory}
use Rattle.venue_core.specs.State.{State}
use Rattle.venue_core.specs.Taking.{Stands, Takes}
use Rattle.trade_reconstruction.specs.declared.trigger.Trigger.{Trigger}
use Rattle.trade_reconstruction.specs.declared.trigger.Trigger.TheVariants as trigger
use Rattle.trade_reconstruction.specs.declared.evidence.EvidenceFault.{EvidenceFault}
use Rattle.trade_reconstruction.specs.declared.evidence.EvidenceFault.TheVariants as fault
use Rattle.trade_reconstruction.specs.declared.evidence_event.EvidenceEvent.{EvidenceEvent}
use Rattle.trade_reconstruction.specs.Found.{HasOrders, HasRequest, HasRow}
use Rattle.trade_reconstruction.specs.declared.quote_note.Ended.{Ended}
use Rattle.trade_reconstruction.specs.declared.quote_note.QuoteFate.{QuoteFate}
use Rattle.trade_reconstruction.specs.declared.trade_notes.TradeNotes.{TradeNotes}
use Rattle.trade_reconstruction.specs.Lines.{evidence}
use Rattle.trade_reconstruction.specs.NoteLines.{fate_lines}
use Rattle.trade_reconstruction.specs.QuoteNotes.{ended_at, fates_at, taken_in}
use Rattle.trade_reconstruction.specs.EventKinds.{trigger_in, words_of}
use Rattle.trade_reconstruction.specs.Standing.{is_watched, stood_at}

-- the trigger at a row: a message, or a tick, after these events
abbrev pub trigger_at : List Instrument → List EvidenceEvent → ℕ → Option Taken → Trigger
trigger_at xs words row (Some taken) = trigger_in xs words row taken.from taken.item.app
trigger_at xs words row None = trigger.Tick

-- and of an input
abbrev pub came_of : Market → List EvidenceEvent → ℕ → Input → Trigger
came_of m words row (Message taken t) = trigger_at m.instruments words row (Some taken)
came_of m words row (Tick t) = trigger_at m.instruments words row None

-- the events at a row, after these: the answer of the rules to the input of the row
abbrev pub words_at : Market → History → List EvidenceEvent → TrailRow → Input → List EvidenceEvent
words_at m h words r i = words_of r.n r.moment (came_of m words r.n i) (answer_input m h i).replies

-- these events, and those at the rows, one after another, from a history on
abbrev pub words_from : Market → History → List EvidenceEvent → List TrailRow → List Input → List EvidenceEvent
words_from m h words [] is = words
words_from m h words (r ∷ rs) [] = words
words_from m h words (r ∷ rs) (i ∷ is) = words_from m (after h (answer_input m h i)) (words ++ words_at m h words r i) rs is

-- the events of a day
abbrev pub words_emitted : Market → List TrailRow → List Input → List EvidenceEvent
words_emitted m rs is = words_from m no_history [] rs is

-- these ends of quotes, and those that are reported at the rows
abbrev pub ended_from : Market → History → List Ended → List TrailRow → List Input → List Ended
ended_from m h ended [] is = ended
ended_from m h ended (r ∷ rs) [] = ended
ended_from m h ended (r ∷ rs) (i ∷ is) = ended_from m (after h (answer_input m h i)) (ended ++ ended_at r (taken_in i) (answer_input m h i).replies) rs is

-- what rested, at the row where the trade with a number is made, before the order that it filled
abbrev pub stood_on : Market → ℕ → History → List TrailRow → List Input → List EvidenceEvent
stood_on m number h [] is = []
stood_on m number h (r ∷ rs) [] = []
stood_on m number h (r ∷ rs) (i ∷ is) = stood_at m h number r.n r.moment (answer_input m h i).replies ++ stood_on m number (after h (answer_input m h i)) rs is

-- of a day
abbrev pub stood_emitted : Market → ℕ → List TrailRow → List Input → List EvidenceEvent
stood_emitted m number rs is = stood_on m number no_history rs is

-- what had become of the quotes of its room, at that row
abbrev pub fates_on : Market → ℕ → History → List EvidenceEvent → List Ended → List TrailRow → List Input → List QuoteFate
fates_on m number h words ended [] is = []
fates_on m number h words ended (r ∷ rs) [] = []
fates_on m number h words ended (r ∷ rs) (i ∷ is) =
    fates_at m h number words ended r i ++ fates_on m number (after h (answer_input m h i)) (words ++ words_at m h words r i) (ended ++ ended_at r (taken_in i) (answer_input m h i).replies) rs is

-- of a day
abbrev pub fates_emitted : Market → ℕ → List TrailRow → List Input → List QuoteFate
fates_emitted m number rs is = fates_on m number no_history [] [] rs is

-- What is noted of the trade with a number, out of the notes of some.

abbrev pub own : {A : Type 0} → ℕ → (ℕ → List A) → List ℕ → List A
own number of numbers = flat_map (λ n. if n == number then of n else []) numbers

abbrev pub stood_in : ℕ → TradeNotes → List EvidenceEvent
stood_in number x = if x.number == number then x.stood.items else []

abbrev pub stood_for : ℕ → List TradeNotes → List EvidenceEvent
stood_for number notes = flat_map (stood_in number) notes

abbrev pub fates_of : ℕ → TradeNotes → List QuoteFate
fates_of number x = if x.number == number then x.fates.items else []

abbrev pub fates_for : ℕ → List TradeNotes → List QuoteFate
fates_for number notes = flat_map (fates_of number) notes

-- a venue processes the input of a row; the events and the ends of quotes there were added, and of each trade there
-- that is watched what is noted of it
pub record HearsRow (watch : Option ℕ) (r : TrailRow) (s s' : State) (words words' : List EvidenceEvent) (ended ended' : List Ended) (notes notes' : List TradeNotes) : Type 0 where
  pub input : Input
  pub answer : Answer
  pub emits : Emits r input
  pub takes : Takes s input answer s'
  pub hears : (h : History) → IsHistory s h → words' ≡ words ++ words_at s.market h words r input
  pub ends : (h : History) → IsHistory s h → ended' ≡ ended ++ ended_at r (taken_in input) (answer_input s.market h input).replies
  pub stood : (h : History) (number : ℕ) → IsHistory s h → is_watched watch number ≡ true → stood_for number notes' ≡ stood_for number notes ++ stood_at s.market h number r.n r.moment (answer_input s.market h input).replies
  pub fates : (h : History) (number : ℕ) → IsHistory s h → is_watched watch number ≡ true → fates_for number notes' ≡ fates_for number notes ++ fates_at s.market h number words ended r input

-- a venue stands where the inputs of these rows lead, and these are the events, the ends of quotes, and the notes
pub record IsHeard (m : Market) (watch : Option ℕ) (rs : List TrailRow) (s : State) (words : List EvidenceEvent) (ended : List Ended) (notes : List TradeNotes) : Type 0 where
  pub items : List Input
  pub emitted : AreEmitted rs items
  pub stands : Stands m items s
  pub said : words ≡ words_emitted m rs items
  pub ends : ended ≡ ended_from m no_history [] rs items
  pub stood : (number : ℕ) → is_watched watch number ≡ true → stood_for number notes ≡ stood_emitted m number rs items
  pub fates : (number : ℕ) → is_watched watch number ≡ true → fates_for number notes ≡ fates_emitted m number rs items

-- the trade with this number, counted from 1
abbrev pub numbered_in : List TradeFact → ℕ → Option TradeFact
numbered_in trades number = if number == 0 then None else slice_get trades (number - 1)

-- and among those of a history
abbrev pub trade_numbered : History → ℕ → Option TradeFact
trade_numbered h number = numbered_in (trade_facts h.facts) number

-- the rows record these inputs; and where they are those of a run, these are its inputs
pub record AreOf (rs : List TrailRow) (items : List Input) : Type 0 where
  pub emitted : AreEmitted rs items
  pub of_run : (is : List Input) → rs ≡ rows is → AreFitting is → items ≡ is

-- A text is the evidence for the trade with this number in the run of these inputs: the row at which it was made is
-- found; of a room trade its request is found, and of a trade in the book both its orders.
pub record IsEvidenceIn (m : Market) (rs : List TrailRow) (items : List Input) (number : ℕ) (text : List ℕ) : Type 0 where
  pub trade : TradeFact
  pub numbered : trade_numbered (run m items).history number ≡ Some trade
  pub is : text ≡ evidence m rs (words_emitted m rs items) (stood_emitted m number rs items) (fate_lines (fates_emitted m number rs items)) trade
  pub made : HasRow m rs items (words_emitted m rs items) number trade
  pub requested : (room : ℕ) → trade.room ≡ Some room → HasRequest m rs items (words_emitted m rs items) trade room
  pub ordered : trade.room ≡ None → HasOrders m rs items (words_emitted m rs items) (stood_emitted m number rs items) number trade

-- and of the inputs of these rows
pub record IsEvidence (m : Market) (rs : List TrailRow) (number : ℕ) (text : List ℕ) : Type 0 where
  pub items : List Input
  pub emitted : AreOf rs items
  pub of_trade : IsEvidenceIn m rs items number text

-- the evidence for a trade, out of these events and notes
abbrev pub evidence_by : Market → List TrailRow → List EvidenceEvent → List TradeNotes → TradeFact → List ℕ
evidence_by m rs words notes t = evidence m rs words (stood_for t.number notes) (fate_lines (fates_for t.number notes)) t

-- behind an empty line
abbrev pub evidence_behind : Market → List TrailRow → List EvidenceEvent → List TradeNotes → TradeFact → List ℕ
evidence_behind m rs words notes t = codes "\n" ++ evidence_by m rs words notes t

-- Texts are the evidences for all trades of that run, from the first to the last.
pub record AreEvidences (m : Market) (rs : List TrailRow) (texts : List (List ℕ)) : Type 0 where
  pub items : List Input
  pub emitted : AreOf rs items
  pub all : length texts ≡ length (trade_facts (run m items).history.facts)
  pub each : (k : ℕ) (text : List ℕ) → slice_get texts k ≡ Some text → IsEvidenceIn m rs items (k + 1) text

-- with an empty line between two; a line where there are none

abbrev pub behind : List (List ℕ) → List ℕ
behind texts = flat_map (λ text. codes "\n" ++ text) texts

abbrev pub joined : List (List ℕ) → List ℕ
joined [] = codes "no trades\n"
joined (text ∷ texts) = text ++ behind texts

-- what was written is all evidences, one after the other, and nothing else
pub record EmitsTrades (m : Market) (rs : List TrailRow) (before after : Option (List ℕ)) : Type 0 where
  pub texts : List (List ℕ)
  pub evidences : AreEvidences m rs texts
  pub written : Appends before after (joined texts)

-- nothing was written, or the first of these texts, not all of them, each whole
abbrev pub BeginsJoined : Option (List ℕ) → Option (List ℕ) → List (List ℕ) → Type 0
BeginsJoined before after texts = Keeps before after ⊎ ((k : ℕ) × (suc k < length texts) × Appends before after (joined (take (suc k) texts)))

-- the evidences for the first trades of that run were written, not for all, each whole
pub record BeginsEvidences (m : Market) (rs : List TrailRow) (before after : Option (List ℕ)) : Type 0 where
  pub texts : List (List ℕ)
  pub evidences : AreEvidences m rs texts
  pub count : ℕ
  pub some : 0 < count
  pub few : count < length texts
  pub written : Appends before after (joined (take count texts))

-- nothing, or these
abbrev pub BeginsTrades : Market → List TrailRow → Option (List ℕ) → Option (List ℕ) → Type 0
BeginsTrades m rs before after = Keeps before after ⊎ BeginsEvidences m rs before after

-- what was written is the evidence for this trade, and nothing else
pub record EmitsTrade (m : Market) (rs : List TrailRow) (number : ℕ) (before after : Option (List ℕ)) : Type 0 where
  pub text : List ℕ
  pub evidence : IsEvidence m rs number text
  pub written : Appends before after text

-- in that run there is no trade with this number
pub record HasNoTrade (m : Market) (rs : List TrailRow) (number : ℕ) : Type 0 where
  pub items : List Input
  pub emitted : AreOf rs items
  pub none : trade_numbered (run m items).history number ≡ None

-- the fact, unless lines were being written
abbrev pub UnlessWriting : EvidenceFault → Type 0 → Type 0
UnlessWriting fault.Output fact = ⊤
UnlessWriting fault.Memory fact = fact
UnlessWriting fault.NoTrade fact = fact
