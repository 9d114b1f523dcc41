-- Texts that are appended one behind the other.
use Rattle.std.proofs.Common.{◌≡◌, ℕ, ◌+◌, ◌<◌, List, [], ◌∷◌, ◌++◌, All, append-nil, get_or, length, Option, Some, None, slice_get, take, refl, sym, ap, ◌∙◌, subst, append_assoc}
use Rattle.std.specs.List.{flat_map}
use Rattle.std.proofs.lemmas.List.{take_more}
use Rattle.std.proofs.lemmas.List.Elements.{All-take}
use Rattle.std.proofs.lemmas.Option.{get_or_from_slice_get, slice_get_within}
use Rattle.std.specs.Io.KnownBytes.{Keeps}
use Rattle.instruments.specs.declared.instruments.Instrument.{Instrument}
use Rattle.participants.specs.ParticipantFile.{ParticipantFile}
use Rattle.venue_rules.specs.declared.replies.Reply.{Reply}
use Rattle.venue_rules.specs.declared.trail.TrailRow.{TrailRow}
use Rattle.venue_rules.specs.Facts.{History}
use Rattle.venue_rules.specs.Market.{Market}
use Rattle.venue_rules.specs.Run.{Input, answer_input}
use Rattle.venue_core.specs.Replay.{IsItem}
use Rattle.refusal_causes.specs.Printed.{answered_text, passing_lines, row_lines, verdict}

-- three pieces
pub three : (old a b c one two last : List ℕ) → one ≡ old ++ a → two ≡ one ++ b → last ≡ two ++ c → last ≡ old ++ (a ++ (b ++ c))
three old a b c one two last first second third =
    third ∙ ap (λ (l : List ℕ). l ++ c) (second ∙ ap (λ (l : List ℕ). l ++ b) first) ∙ (ap (λ (l : List ℕ). l ++ c) (append_assoc old a b) ∙ (append_assoc old (a ++ b) c ∙ ap (λ (l : List ℕ). old ++ l) (append_assoc a b c)))

-- and four
pub four : (old a b c d one two next last : List ℕ) → one ≡ old ++ a → two ≡ one ++ b → next ≡ two ++ c → last ≡ next ++ d → last ≡ old ++ (a ++ (b ++ (c ++ d)))
four old a b c d one two next last first second third fourth =
    fourth ∙ ap (λ (l : List ℕ). l ++ d) (three old a b c one two next first second third)
    ∙ (append_assoc old (a ++ (b ++ c)) d ∙ ap (λ (l : List ℕ). old ++ l) (append_assoc a (b ++ c) d ∙ ap (λ (l : List ℕ). a ++ l) (append_assoc b c d)))

-- of an empty text
pub whole : (a b c empty one two last : List ℕ) → empty ≡ [] → one ≡ empty ++ a → two ≡ one ++ b → last ≡ two ++ c → last ≡ a ++ (b ++ c)
whole a b c empty one two last none first second third = three [] a b c one two last (first ∙ ap (λ (l : List ℕ). l ++ a) none) second third

-- the lines of the market of a venue that stands as before
pub same_passing : (m m' : Market) (f : ParticipantFile) (x : List Instrument) (who t passes : ℕ) (rs rs' : List Reply) → f ≡ m'.participants → x ≡ m'.instruments → m' ≡ m → rs ≡ rs'
    → passing_lines f x who t passes rs ≡ passing_lines m.participants m.instruments who t passes rs'
same_passing m m' f x who t passes rs rs' is_file is_listed same is =
    ap (λ (g : ParticipantFile). passing_lines g x who t passes rs) (is_file ∙ ap (λ (n : Market). n.participants) same)
    ∙ (ap (λ (l : List Instrument). passing_lines m.participants l who t passes rs) (is_listed ∙ ap (λ (n : Market). n.instruments) same) ∙ ap (λ (l : List Reply). passing_lines m.participants m.instruments who t passes l) is)

pub same_answered : (m m' : Market) (h : History) (r : TrailRow) (i : Input) (place count : ℕ) (f g : ParticipantFile) (x : List Instrument) (rs : List Reply) (old mid new : List ℕ) → f ≡ m'.participants → g ≡ m'.participants → x ≡ m'.instruments
    → m' ≡ m → rs ≡ (answer_input m h i).replies → mid ≡ old ++ row_lines f r i rs → new ≡ mid ++ verdict (record { participants = g; instruments = x }) i place count rs → new ≡ old ++ answered_text m h r i place count
same_answered m m' h r i place count f g x rs old mid new is_file is_second is_listed same is first second =
    let file = is_file ∙ ap (λ (n : Market). n.participants) same in
    let file' = is_second ∙ ap (λ (n : Market). n.participants) same in
    let listed = is_listed ∙ ap (λ (n : Market). n.instruments) same in
    let rows_are : row_lines f r i rs ≡ row_lines m.participants r i (answer_input m h i).replies =
    ap (λ (k : ParticipantFile). row_lines k r i rs) file ∙ ap (λ (l : List Reply). row_lines m.participants r i l) is in
    let verdict_is : verdict (record { participants = g; instruments = x }) i place count rs ≡ verdict m i place count (answer_input m h i).replies =
    ap (λ (k : ParticipantFile). verdict (record { participants = k; instruments = x }) i place count rs) file'
    ∙ (ap (λ (l : List Instrument). verdict (record { participants = m.participants; instruments = l }) i place count rs) listed ∙ ap (λ (l : List Reply). verdict m i place count l) is) in
    second ∙ ap (λ (l : List ℕ). mid ++ l) verdict_is ∙ (ap (λ (l : List ℕ). l ++ verdict m i place count (answer_input m h i).replies) (first ∙ ap (λ (l : List ℕ). old ++ l) rows_are)
    ∙ append_assoc old (row_lines m.participants r i (answer_input m h i).replies) (verdict m i place count (answer_input m h i).replies))

pub row_kept : (rs : List TrailRow) (k : ℕ) (r : TrailRow) → All IsItem rs → slice_get rs k ≡ Some r → IsItem r
row_kept rs k r kept there = subst IsItem (get_or_from_slice_get rs k r r there) (kept k r (slice_get_within rs k r there))

pub keeps_own : (held : Option (List ℕ)) → Keeps held held
keeps_own None = tt
keeps_own (Some bytes) = refl

pub kept_before : (rs : List TrailRow) (k : ℕ) → All IsItem rs → All IsItem (take k rs)
kept_before rs k kept = All-take IsItem k rs kept

flat_map_more : {X : Type 0} (f : X → List ℕ) (xs : List X) (y : X) → flat_map f (xs ++ y ∷ []) ≡ flat_map f xs ++ f y
flat_map_more f [] y = append-nil (f y)
flat_map_more f (x ∷ xs) y = ap (λ (l : List ℕ). f x ++ l) (flat_map_more f xs y) ∙ sym (append_assoc (f x) (flat_map f xs) (f y))

-- one element more
pub more_mapped : {X : Type 0} (f : X → List ℕ) (xs : List X) (i : ℕ) (d : X) (old now new : List ℕ) → i < length xs → now ≡ old ++ flat_map f (take i xs) → new ≡ now ++ f (get_or xs i d) → new ≡ old ++ flat_map f (take (i + 1) xs)
more_mapped f xs i d old now new low before step =
    step ∙ (ap (λ (l : List ℕ). l ++ f (get_or xs i d)) before ∙ (append_assoc old (flat_map f (take i xs)) (f (get_or xs i d))
    ∙ ap (λ (l : List ℕ). old ++ l) (sym (flat_map_more f (take i xs) (get_or xs i d)) ∙ ap (flat_map f) (sym (take_more xs i d low)))))
