-- Rows added one after another, and the section of them.
use Rattle.std.proofs.Common.{◌≡◌, ℕ, ◌+◌, ◌<◌, Bool, true, false, List, [], ◌∷◌, ◌++◌, length, take, get_or, All, if◌then◌else◌, refl, sym, ap, ◌∙◌, subst, arith}
use Rattle.std.proofs.lemmas.List.{append_assoc, length-take-le, take_more}
use Rattle.page_text.specs.Laws.{PartsFollowParts}
use Rattle.page_text.specs.Parts.{Part, with_part, with_parts}
use Rattle.participants.specs.ParticipantFile.{ParticipantFile}
use Rattle.venue_core.specs.Replay.{AreEmitted, Emits, IsItem}
use Rattle.venue_rules.specs.declared.trail.TrailRow.{TrailRow}
use Rattle.venue_rules.specs.Run.{Input}
use Rattle.day_sections.specs.Values.{are_shown}
use Rattle.day_tables.specs.Parts.{plain_part}
use Rattle.day_page.specs.Folds.{closing, opening}
use Rattle.day_page.specs.Rows.{AddsNext, AddsRow, AddsRows, AddsSection, count_part, each_row, listed, row_part}

pub follow : PartsFollowParts
follow page [] qs = refl
follow page (p ∷ ps) qs = follow (with_part page p) ps qs

emitted_more : (rs : List TrailRow) (is : List Input) (r : TrailRow) (i : Input) → AreEmitted rs is → Emits r i → AreEmitted (rs ++ r ∷ []) (is ++ i ∷ [])
emitted_more [] [] r i emitted emits = (emits, tt)
emitted_more [] (j ∷ is) r i emitted emits = absurd emitted
emitted_more (x ∷ rs) [] r i emitted emits = absurd emitted
emitted_more (x ∷ rs) (j ∷ is) r i emitted emits = (emitted.0, emitted_more rs is r i emitted.1 emits)

-- behind these rows the next, and what begins before it
each_more : (file : ParticipantFile) (all : List TrailRow) (place : ℕ) (rs : List TrailRow) (is : List Input) (r : TrailRow) (i : Input) → AreEmitted rs is
    → each_row file all place (rs ++ r ∷ []) (is ++ i ∷ []) ≡ each_row file all place rs is ++ (opening all (place + length rs) r ++ row_part file r i ∷ [])
each_more file all place [] [] r i emitted =
    let none : place ≡ place + 0 = omega arith in
    ap (λ (k : ℕ). opening all k r ++ row_part file r i ∷ []) none
each_more file all place [] (j ∷ is) r i emitted = absurd emitted
each_more file all place (x ∷ rs) [] r i emitted = absurd emitted
each_more file all place (x ∷ rs) (j ∷ is) r i emitted =
    let next : place + 1 + length rs ≡ place + length (x ∷ rs) = omega arith in
    let rest = each_row file all (place + 1) rs is in
    ap (λ (l : List Part). opening all place x ++ (row_part file x j ∷ l)) (each_more file all (place + 1) rs is r i emitted.1 ∙ ap (λ (k : ℕ). rest ++ (opening all k r ++ row_part file r i ∷ [])) next)
    ∙ sym (append_assoc (opening all place x) (row_part file x j ∷ rest) (opening all (place + length (x ∷ rs)) r ++ row_part file r i ∷ []))

pub next_added : (file : ParticipantFile) (all : List TrailRow) (place : ℕ) (r : TrailRow) (before page after : List ℕ) → page ≡ with_parts before (opening all place r) → AddsRow file r page after → AddsNext file all place r before after
next_added file all place r before page after opened one = record {
  input = one.input;
  emits = one.emits;
  added = one.added ∙ (ap (λ (x : List ℕ). with_part x (row_part file r one.input)) opened ∙ sym (follow before (opening all place r) (row_part file r one.input ∷ [])));
}

pub added_more : (file : ParticipantFile) (all rs : List TrailRow) (k : ℕ) (r : TrailRow) (before page more : List ℕ) → k < length rs → r ≡ get_or rs k r
    → AddsRows file all (take k rs) before page → AddsNext file all k r page more → AddsRows file all (take (k + 1) rs) before more
added_more file all rs k r before page more low at_k so_far one =
    let longer : take (k + 1) rs ≡ take k rs ++ r ∷ [] = take_more rs k r low ∙ ap (λ (x : TrailRow). take k rs ++ x ∷ []) (sym at_k) in
    let is = so_far.read ++ one.input ∷ [] in
    let here : k ≡ 0 + length (take k rs) = omega (arith, length-take-le k rs (omega (arith, low))) in
    let next = opening all k r ++ row_part file r one.input ∷ [] in
    let added : more ≡ with_parts before (each_row file all 0 (take k rs ++ r ∷ []) is) =
    one.added
    ∙ (ap (λ (x : List ℕ). with_parts x next) so_far.added
    ∙ (sym (follow before (each_row file all 0 (take k rs) so_far.read) next)
    ∙ (ap (λ (n : ℕ). with_parts before (each_row file all 0 (take k rs) so_far.read ++ (opening all n r ++ row_part file r one.input ∷ []))) here
    ∙ ap (with_parts before) (sym (each_more file all 0 (take k rs) so_far.read r one.input so_far.emitted))))) in
    record {
      read = is;
      emitted = subst (λ (l : List TrailRow). AreEmitted l is) (sym longer) (emitted_more (take k rs) so_far.read r one.input so_far.emitted one.emits);
      added = added ∙ ap (λ (l : List TrailRow). with_parts before (each_row file all 0 l is)) (sym longer);
    }

pub added_none : (file : ParticipantFile) (all : List TrailRow) (page : List ℕ) → AddsRows file all [] page page
added_none file all page = record { read = []; emitted = tt; added = refl }

-- the section

pub all_listed : (rs : List TrailRow) → All IsItem rs → All IsItem (listed rs)
all_listed rs h = by_test (are_shown rs)
  where
    by_test : (b : Bool) → All IsItem (if b then rs else [])
    by_test true = h
    by_test false = λ k d low. absurd (omega (arith, low))

pub rows_added : (file : ParticipantFile) (rs ls : List TrailRow) (end : List ℕ) (before one two after : List ℕ) → ls ≡ listed rs → end ≡ closing rs
    → one ≡ with_part before (count_part rs) → AddsRows file ls ls one two → after ≡ with_part two (plain_part end) → AddsSection file rs before after
rows_added file rs ls end before one two after is ends h m n =
    let rows : AddsRows file (listed rs) (listed rs) one two = subst (λ (x : List TrailRow). AddsRows file x x one two) is m in
    let list = each_row file (listed rs) 0 (listed rs) rows.read in
    let tail = list ++ plain_part (closing rs) ∷ [] in
    let ended : after ≡ with_parts one tail =
    n ∙ (ap (λ (e : List ℕ). with_part two (plain_part e)) ends ∙ (ap (λ (x : List ℕ). with_part x (plain_part (closing rs))) rows.added ∙ sym (follow one list (plain_part (closing rs) ∷ [])))) in
    record {
      read = rows.read;
      emitted = rows.emitted;
      added = ended ∙ ap (λ (x : List ℕ). with_parts x tail) h;
    }
