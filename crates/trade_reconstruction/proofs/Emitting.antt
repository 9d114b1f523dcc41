-- The evidence for a trade.
use Rattle.std.proofs.Common.{◌≡◌, ◌⊎◌, inl, inr, ℕ, zero, suc, ◌+◌, ◌-◌, ◌<◌, ◌==◌, true, false, if◌then◌else◌, List, [], ◌∷◌, ◌++◌, codes, map, length, slice_get, take, Option, Some, None, Result, Ok, Err, refl, sym, ap, subst, ◌∙◌, eq-eqb, ne_eqb, arith}
use Rattle.std.proofs.KnownBytes.{Appends-trans}
use Rattle.std.proofs.lemmas.List.{length-map}
use Rattle.std.specs.List.{flat_map}
use Rattle.std.specs.Bool.{⊤}
use Rattle.std.specs.Result.{IfErr, IsErrAnd}
use Rattle.std.specs.Io.KnownBytes.{Appends, Keeps}
use Rattle.trade_blotter.specs.declared.printing.PrintFault.{PrintFault}
use Rattle.trade_blotter.specs.declared.printing.PrintFault.TheVariants as print
use Rattle.trade_blotter.specs.Printing.{AppendsSome}
use Rattle.venue_rules.specs.declared.trail.TradeFact.{TradeFact}
use Rattle.venue_rules.specs.declared.trail.TrailRow.{TrailRow}
use Rattle.venue_rules.specs.Facts.{History}
use Rattle.venue_rules.specs.Market.{Market}
use Rattle.venue_rules.specs.Readings.{trade_facts}
use Rattle.venue_rules.specs.Run.{Input, rows, run}
use Rattle.venue_core.specs.Replay.{AreFitting, AreEmitted}
use Rattle.venue_core.specs.VenueFacts.{IsHistory}
use Rattle.venue_core.specs.State.{State}
use Rattle.trade_reconstruction.specs.declared.evidence.EvidenceFault.{EvidenceFault}
use Rattle.trade_reconstruction.specs.declared.evidence.EvidenceFault.TheVariants.{Memory, NoTrade, Output}
use Rattle.trade_reconstruction.specs.declared.evidence_event.EvidenceEvent.{EvidenceEvent}
use Rattle.trade_reconstruction.specs.Laws.{BookTradesHaveOrders, RoomTradesHaveRequests, TradesHaveRows}
use Rattle.trade_reconstruction.specs.declared.quote_note.Ended.{Ended}
use Rattle.trade_reconstruction.specs.declared.trade_notes.TradeNotes.{TradeNotes}
use Rattle.trade_reconstruction.specs.Lines.{evidence}
use Rattle.trade_reconstruction.specs.NoteLines.{fate_lines}
use Rattle.trade_reconstruction.specs.Standing.{is_watched}
use Rattle.trade_reconstruction.specs.Emitted.{AreEvidences, AreOf, BeginsJoined, BeginsTrades, EmitsTrade, EmitsTrades, HasNoTrade, IsEvidence, IsEvidenceIn, IsHeard, UnlessWriting, behind, evidence_behind, evidence_by, fates_for, joined, numbered_in, stood_for, trade_numbered, words_emitted}
use Rattle.trade_blotter.proofs.Lists.{none_is_some, same_some}

-- rows of inputs record these inputs
abbrev pub EmitTheirInputs : Type 0
EmitTheirInputs = (rs : List TrailRow) (is emitted : List Input) → rs ≡ rows is → AreFitting is → AreEmitted rs emitted → emitted ≡ is

are_of : EmitTheirInputs → (rs : List TrailRow) (items : List Input) → AreEmitted rs items → AreOf rs items
are_of law rs items emitted = record { emitted = emitted; of_run = λ is same fits. law rs is items same fits emitted }

abbrev pub Laws : Type 0
Laws = RoomTradesHaveRequests × BookTradesHaveOrders × TradesHaveRows

-- the evidence for a trade out of the notes on it
evidence_in : Laws → (m : Market) (rs : List TrailRow) (watch : Option ℕ) (s : State) (words : List EvidenceEvent) (ended : List Ended) (notes : List TradeNotes) (number : ℕ) (trade : TradeFact) (text : List ℕ) → (heard : IsHeard m watch rs s words ended notes)
    → is_watched watch number ≡ true → trade_numbered (run m heard.items).history number ≡ Some trade → trade.number ≡ number → text ≡ evidence_by s.market rs words notes trade → IsEvidenceIn m rs heard.items number text
evidence_in laws m rs watch s words ended notes number trade text heard watched found same is = record {
  trade = trade;
  numbered = found;
  is = is
      ∙ (λ k. evidence (heard.stands.market k) rs (heard.said k) (stood_for (same k) notes) (fate_lines (fates_for (same k) notes)) trade)
      ∙ (λ k. evidence m rs (words_emitted m rs heard.items) (heard.stood number watched k) (fate_lines (heard.fates number watched k)) trade);
  made = laws.2 m rs heard.items number trade heard.emitted found;
  requested = λ room placed. laws.0 m rs heard.items number room trade heard.emitted found placed;
  ordered = λ placed. laws.1 m rs heard.items number trade heard.emitted found placed;
}

-- a trade has the number by which it is found
own_number : (laws : Laws) (m : Market) (rs : List TrailRow) (items : List Input) (number : ℕ) (trade : TradeFact) → AreEmitted rs items → trade_numbered (run m items).history number ≡ Some trade → trade.number ≡ number
own_number laws m rs items number trade emitted found = ap (λ (t : TradeFact). t.number) (laws.2 m rs items number trade emitted found).read_back

pub trade_emitted : EmitTheirInputs → RoomTradesHaveRequests → BookTradesHaveOrders → TradesHaveRows → (m : Market) (rs : List TrailRow) (s : State) (words : List EvidenceEvent) (ended : List Ended) (notes : List TradeNotes) (number : ℕ) (trade : TradeFact) (text : List ℕ)
    → IsHeard m (Some number) rs s words ended notes → ((h : History) → IsHistory s h → Some trade ≡ trade_numbered h number) → text ≡ evidence_by s.market rs words notes trade → IsEvidence m rs number text
trade_emitted law requests orders rows_made m rs s words ended notes number trade text heard numbered is =
    let laws : Laws = (requests, orders, rows_made) in
    let found = sym (numbered (run m heard.items).history heard.stands.history) in
    record {
      items = heard.items;
      emitted = are_of law rs heard.items heard.emitted;
      of_trade = evidence_in laws m rs (Some number) s words ended notes number trade text heard (eq-eqb number number refl) found (own_number laws m rs heard.items number trade heard.emitted found) is;
    }

slice_of_map : {X Y : Type 0} (f : X → Y) (xs : List X) (k : ℕ) (y : Y) → slice_get (map f xs) k ≡ Some y → (x : X) × (slice_get xs k ≡ Some x) × (f x ≡ y)
slice_of_map f [] k y e = absurd (none_is_some y e)
slice_of_map f (x ∷ xs) zero y e = (x, refl, same_some (f x) y e)
slice_of_map f (x ∷ xs) (suc k) y e = slice_of_map f xs k y e

numbered_next : (ts : List TradeFact) (k : ℕ) → numbered_in ts (k + 1) ≡ slice_get ts k
numbered_next ts k = (λ j. if above k j then None else slice_get ts (before k j))
  where
    apart : (k : ℕ) → k + 1 ≡ 0 → ⊥
    apart k e = omega (arith, e)

    above : (k : ℕ) → (k + 1 == 0) ≡ false
    above k = ne_eqb (k + 1) 0 (apart k)

    before : (k : ℕ) → k + 1 - 1 ≡ k
    before k = omega arith

-- the evidences for every trade
all_evidences : EmitTheirInputs → RoomTradesHaveRequests → BookTradesHaveOrders → TradesHaveRows → (m : Market) (rs : List TrailRow) (s : State) (words : List EvidenceEvent) (ended : List Ended) (notes : List TradeNotes) (trades : List TradeFact)
    → IsHeard m None rs s words ended notes → ((h : History) → IsHistory s h → trades ≡ trade_facts h.facts) → AreEvidences m rs (map (evidence_by s.market rs words notes) trades)
all_evidences law requests orders rows_made m rs s words ended notes trades heard listed =
    let laws : Laws = (requests, orders, rows_made) in
    let of_trade : TradeFact → List ℕ = evidence_by s.market rs words notes in
    let h = (run m heard.items).history in
    let are : trades ≡ trade_facts h.facts = listed h heard.stands.history in
    record {
      items = heard.items;
      emitted = are_of law rs heard.items heard.emitted;
      all = length-map trades of_trade ∙ ap (λ (ts : List TradeFact). length ts) are;
      each = λ k one there.
          let t = slice_of_map of_trade trades k one there in
          let found : trade_numbered h (k + 1) ≡ Some t.0 = numbered_next (trade_facts h.facts) k ∙ (ap (λ (ts : List TradeFact). slice_get ts k) (sym are) ∙ t.1) in
          evidence_in laws m rs None s words ended notes (k + 1) t.0 one heard refl found (own_number laws m rs heard.items (k + 1) t.0 heard.emitted found) (sym t.2);
    }

-- all were written
pub all_emitted : EmitTheirInputs → RoomTradesHaveRequests → BookTradesHaveOrders → TradesHaveRows → (m : Market) (rs : List TrailRow) (s : State) (words : List EvidenceEvent) (ended : List Ended) (notes : List TradeNotes) (trades : List TradeFact) (before after : Option (List ℕ))
    → IsHeard m None rs s words ended notes → ((h : History) → IsHistory s h → trades ≡ trade_facts h.facts) → Appends before after (joined (map (evidence_by s.market rs words notes) trades)) → EmitsTrades m rs before after
all_emitted law requests orders rows_made m rs s words ended notes trades before after heard listed written = record {
  texts = map (evidence_by s.market rs words notes) trades;
  evidences = all_evidences law requests orders rows_made m rs s words ended notes trades heard listed;
  written = written;
}

first_written : (m : Market) (rs : List TrailRow) (texts : List (List ℕ)) (before after : Option (List ℕ)) → AreEvidences m rs texts → BeginsJoined before after texts → BeginsTrades m rs before after
first_written m rs texts before after evidences (inl kept) = inl kept
first_written m rs texts before after evidences (inr first) = inr (record { texts = texts; evidences = evidences; count = suc first.0; some = omega arith; few = first.1; written = first.2 })

-- or the first of them
pub all_begun : EmitTheirInputs → RoomTradesHaveRequests → BookTradesHaveOrders → TradesHaveRows → (m : Market) (rs : List TrailRow) (s : State) (words : List EvidenceEvent) (ended : List Ended) (notes : List TradeNotes) (trades : List TradeFact) (before after : Option (List ℕ))
    → IsHeard m None rs s words ended notes → ((h : History) → IsHistory s h → trades ≡ trade_facts h.facts) → BeginsJoined before after (map (evidence_by s.market rs words notes) trades) → BeginsTrades m rs before after
all_begun law requests orders rows_made m rs s words ended notes trades before after heard listed =
    first_written m rs (map (evidence_by s.market rs words notes) trades) before after (all_evidences law requests orders rows_made m rs s words ended notes trades heard listed)

-- texts behind a line each
behind_map : (f : TradeFact → List ℕ) (ts : List TradeFact) → flat_map (λ t. codes "\n" ++ f t) ts ≡ behind (map f ts)
behind_map f [] = refl
behind_map f (t ∷ ts) = ap (λ l. (codes "\n" ++ f t) ++ l) (behind_map f ts)

take_map : (f : TradeFact → List ℕ) (k : ℕ) (ts : List TradeFact) → map f (take k ts) ≡ take k (map f ts)
take_map f zero ts = refl
take_map f (suc k) [] = refl
take_map f (suc k) (t ∷ ts) = ap (λ l. f t ∷ l) (take_map f k ts)

-- the first text, and all behind it
pub first_joined : (f : TradeFact → List ℕ) (t : TradeFact) (ts : List TradeFact) (before between after : Option (List ℕ)) → Appends before between (f t) → Appends between after (flat_map (λ t. codes "\n" ++ f t) ts) → Appends before after (joined (map f (t ∷ ts)))
first_joined f t ts before between after one rest =
    subst (λ (l : List ℕ). Appends before after (f t ++ l)) (behind_map f ts) (Appends-trans before between after (f t) (flat_map (λ t. codes "\n" ++ f t) ts) one rest)

-- or some
pub first_begun : (f : TradeFact → List ℕ) (t : TradeFact) (ts : List TradeFact) (before between after : Option (List ℕ)) → Appends before between (f t) → AppendsSome between after (λ t. codes "\n" ++ f t) ts → BeginsJoined before after (map f (t ∷ ts))
first_begun f t ts before between after one some =
    let k = some.0 in
    let low : suc k < suc (length (map f ts)) = omega (arith, some.1, length-map ts f) in
    inr (k, low, subst (λ (l : List (List ℕ)). Appends before after (f t ++ behind l)) (take_map f k ts) (first_joined f t (take k ts) before between after one some.2))

pub no_trade : EmitTheirInputs → (m : Market) (rs : List TrailRow) (s : State) (words : List EvidenceEvent) (ended : List Ended) (notes : List TradeNotes) (number : ℕ) → IsHeard m (Some number) rs s words ended notes
    → ((h : History) → IsHistory s h → None ≡ trade_numbered h number) → HasNoTrade m rs number
no_trade law m rs s words ended notes number heard numbered = record {
  items = heard.items;
  emitted = are_of law rs heard.items heard.emitted;
  none = sym (numbered (run m heard.items).history heard.stands.history);
}

-- the text was written
pub emitted_written : (m m' : Market) (rs : List TrailRow) (number : ℕ) (items text : List ℕ) (before after : Option (List ℕ)) → m ≡ m' → text ≡ items → IsEvidence m rs number items
    → Appends before after text → EmitsTrade m' rs number before after
emitted_written m m' rs number items text before after same is found written = record {
  text = text;
  evidence = subst (λ (n : Market). IsEvidence n rs number text) same (subst (IsEvidence m rs number) (sym is) found);
  written = written;
}

pub keeps_own : (held : Option (List ℕ)) → Keeps held held
keeps_own None = tt
keeps_own (Some bytes) = refl

-- where nothing was being written the writer is as before
pub not_writing : (fault : EvidenceFault) (P : Type 0) → P → UnlessWriting fault P
not_writing Output P p = tt
not_writing Memory P p = p
not_writing NoTrade P p = p

abbrev IsNoTrade : EvidenceFault → Type 0
IsNoTrade Output = ⊥
IsNoTrade Memory = ⊥
IsNoTrade NoTrade = ⊤

-- neither an allocation failure nor a failed write refuses a trade
pub memory_alone : {A : Type 0} (r : Result A EvidenceFault) (P : Type 0) → IsErrAnd r (λ fault. fault ≡ Memory) → IfErr r (λ fault. fault ≡ NoTrade → P)
memory_alone (Ok x) P h = tt
memory_alone (Err fault) P h = λ e. absurd (subst IsNoTrade (sym e ∙ h) tt)

pub output_alone : {A : Type 0} (r : Result A EvidenceFault) (P : Type 0) → IfErr r (λ fault. fault ≡ Output) → IfErr r (λ fault. fault ≡ NoTrade → P)
output_alone (Ok x) P h = tt
output_alone (Err fault) P h = λ e. absurd (subst IsNoTrade (sym e ∙ h) tt)

pub unwritten_alone : {A : Type 0} (r : Result A EvidenceFault) (P : Type 0) → IsErrAnd r (λ fault. fault ≡ Memory) → P → IfErr r (λ fault. UnlessWriting fault P)
unwritten_alone (Ok x) P h p = tt
unwritten_alone (Err fault) P h p = not_writing fault P p

pub output_writing : {A : Type 0} (r : Result A EvidenceFault) (P : Type 0) → IfErr r (λ fault. fault ≡ Output) → IfErr r (λ fault. UnlessWriting fault P)
output_writing (Ok x) P h = tt
output_writing (Err fault) P h = subst (λ (f : EvidenceFault). UnlessWriting f P) (sym h) tt

pub memory_weaker : {A : Type 0} (r : Result A PrintFault) (P Q : Type 0) → (P → Q) → IfErr r (λ fault. fault ≡ print.Memory → P) → IfErr r (λ fault. fault ≡ print.Memory → Q)
memory_weaker (Ok x) P Q f h = tt
memory_weaker (Err fault) P Q f h = λ e. f (h e)
