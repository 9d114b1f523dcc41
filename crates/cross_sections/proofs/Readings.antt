-- A row has one message, and the messages of rows stand at the places of the rows.
use Rattle.std.proofs.Common.{◌≡◌, ℕ, zero, suc, ◌+◌, List, [], ◌∷◌, ◌++◌, Option, Some, None, IfOk, Result, Ok, Err, refl, sym, ap, ◌∙◌, arith, slice_get, subst}
use Rattle.fix_fields.specs.Fields.{AreFields, Entry, fields_text}
use Rattle.fix_dictionary.specs.declared.messages.App.{App}
use Rattle.fix_dictionary.specs.declared.messages.Body.{Body}
use Rattle.fix_dictionary.specs.declared.messages.Body.TheVariants as body
use Rattle.fix_decoder.specs.Applications.{plain_header}
use Rattle.fix_decoder.specs.Messages.{message_in}
use Rattle.venue_rules.specs.declared.trail.Taken.{Taken}
use Rattle.venue_rules.specs.declared.trail.TrailRow.{TrailRow}
use Rattle.venue_rules.specs.Run.{Input, Message, Tick}
use Rattle.venue_core.specs.Replay.{AreEmitted, Emits, IsTextOf}
use Rattle.row_replay.specs.Inputs.{input_of}
use Rattle.day_events.specs.Days.{taken_in}
use Rattle.cross_sections.specs.Crosses.{taken_by}

-- a text is that of one list of fields
abbrev pub OneList : Type 0
OneList = (fields others : List Entry) → AreFields fields → AreFields others → fields_text fields ≡ fields_text others → fields ≡ others

same_app : (a b : App) → body.App a ≡ body.App b → a ≡ b
same_app a b e = cc

pub one_app : OneList → (a b : App) (text : List ℕ) → IsTextOf a text → IsTextOf b text → a ≡ b
one_app law a b text h k =
    let same : h.0 ≡ k.0 = law h.0 k.0 h.1 k.1 (sym h.2 ∙ k.2) in
    same_app a b (h.3.1 ∙ (ap (λ (fs : List Entry). (message_in (plain_header ++ fs)).body) same ∙ sym k.3.1))

same_place : (a b n : ℕ) → n ≡ a + 1 → n ≡ b + 1 → a ≡ b
same_place a b n h k = omega (arith, h, k)

no_clock : {X : Type 0} (a n : ℕ) → n ≡ a + 1 → n ≡ 0 → X
no_clock a n h k = absurd (omega (arith, h, k))

-- what was read of a row is the message of its input
pub one_taken : OneList → (r : TrailRow) (i : Input) (taken : Option Taken) → Emits r i → Emits r (input_of taken r.moment) → taken ≡ taken_in i
one_taken law r (Message t u) (Some other) h k = λ j. Some (record {
  from = same_place other.from t.from r.who k.0 h.0 j;
  item = record { era = (sym k.1 ∙ h.1) j; number = (sym k.2 ∙ h.2) j; app = one_app law other.item.app t.item.app r.text k.4 h.4 j };
})
one_taken law r (Message t u) None h k = no_clock t.from r.who h.0 k.0
one_taken law r (Tick u) (Some other) h k = no_clock other.from r.who k.0 h.0
one_taken law r (Tick u) None h k = refl

none_there : (r : TrailRow) → None ≡ Some r → ⊥
none_there r e = cc

some_there : (x : TrailRow) (X : Type 0) → Some x ≡ None → X
some_there x X e = absurd cc

some_same : (x r : TrailRow) → Some x ≡ Some r → x ≡ r
some_same x r e = cc

-- at the place of a row stands its input, and past the rows none
pub row_is_read : (rs : List TrailRow) (read : List Input) (k : ℕ) (r : TrailRow) → AreEmitted rs read → slice_get rs k ≡ Some r → (i : Input) × (slice_get read k ≡ Some i) × Emits r i
row_is_read [] read k r h e = absurd (none_there r e)
row_is_read (x ∷ rs) [] k r h e = absurd h
row_is_read (x ∷ rs) (i ∷ is) zero r h e = (i, refl, subst (λ (y : TrailRow). Emits y i) (some_same x r e) h.0)
row_is_read (x ∷ rs) (i ∷ is) (suc k) r h e = row_is_read rs is k r h.1 e

pub none_is_read : (rs : List TrailRow) (read : List Input) (k : ℕ) → AreEmitted rs read → slice_get rs k ≡ None → slice_get read k ≡ None
none_is_read [] [] k h e = refl
none_is_read [] (i ∷ is) k h e = absurd h
none_is_read (x ∷ rs) [] k h e = absurd h
none_is_read (x ∷ rs) (i ∷ is) zero h e = some_there x (Some i ≡ None) e
none_is_read (x ∷ rs) (i ∷ is) (suc k) h e = none_is_read rs is k h.1 e

pub read_is : {E : Type 0} → OneList → (x : Result (Option Taken) E) (r : TrailRow) (read : List Input) (k : ℕ) → ((i : Input) × (slice_get read k ≡ Some i) × Emits r i)
    → IfOk x (λ taken. Emits r (input_of taken r.moment)) → IfOk x (λ taken. taken ≡ taken_by (slice_get read k))
read_is law (Ok taken) r read k found h = one_taken law r found.0 taken found.2 h ∙ ap taken_by (sym found.1)
read_is law (Err y) r read k found h = tt
