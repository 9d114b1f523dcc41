-- What a comparison says is so.
use Rattle.std.proofs.Common.{◌≡◌, ◌≢◌, ℕ, suc, ◌+◌, ◌<◌, ◌≤◌, ◌==◌, Bool, true, false, List, [], ◌∷◌, length, take, Option, None, Some, if◌then◌else◌, refl, sym, ap, ◌∙◌, arith, add-one}
use Rattle.std.specs.Prelude.{nat_lt, slice_get}
use Rattle.std.proofs.lemmas.Bool.{false≢true}
use Rattle.std.proofs.lemmas.Bool.Decides.{nat_tests}
use Rattle.std.proofs.lemmas.Slice.Eq.{bytes_eq-Decides}
use Rattle.std.proofs.lemmas.List.{take_all}
use Rattle.desk_log.specs.declared.comparing.Comparison.TheVariants.{All, FirstPart, Differs}
use Rattle.desk_log.specs.declared.once.Conflict.{Conflict}
use Rattle.desk_log.specs.declared.owed.Owed.{Owed}
use Rattle.desk_log.specs.Comparing.{Says, agreed, comparison_of, is_owed, owed_texts}
use Rattle.desk_log.specs.Numbered.{Logged, text_at, texts_in}

pub length-texts : (log : List ℕ) (ls : List Logged) → length (texts_in log ls) ≡ length ls
length-texts log [] = refl
length-texts log (l ∷ ls) = ap suc (length-texts log ls)

pub length-owed : (os : List Owed) → length (owed_texts os) ≡ length os
length-owed [] = refl
length-owed (o ∷ os) = ap suc (length-owed os)

abbrev counted : Bool → ℕ → ℕ
counted b n = if b then n + 1 else 0

pub within : (log : List ℕ) (ls : List Logged) (os : List Owed) → (agreed log ls os ≤ length ls) × (agreed log ls os ≤ length os)
within log [] os = (omega arith, omega arith)
within log (l ∷ ls) [] = (omega arith, omega arith)
within log (l ∷ ls) (o ∷ os) = by (is_owed log l.1 o) (within log ls os)
  where
    by : (b : Bool) → (agreed log ls os ≤ length ls) × (agreed log ls os ≤ length os) → (counted b (agreed log ls os) ≤ length (l ∷ ls)) × (counted b (agreed log ls os) ≤ length (o ∷ os))
    by true h = (omega (arith, h.0), omega (arith, h.1))
    by false h = (omega arith, omega arith)

pub same_front : (log : List ℕ) (ls : List Logged) (os : List Owed) → take (agreed log ls os) (texts_in log ls) ≡ take (agreed log ls os) (owed_texts os)
same_front log [] os = refl
same_front log (l ∷ ls) [] = refl
same_front log (l ∷ ls) (o ∷ os) = by (is_owed log l.1 o) refl (same_front log ls os)
  where
    by : (b : Bool) → is_owed log l.1 o ≡ b → take (agreed log ls os) (texts_in log ls) ≡ take (agreed log ls os) (owed_texts os) → take (counted b (agreed log ls os)) (texts_in log (l ∷ ls)) ≡ take (counted b (agreed log ls os)) (owed_texts (o ∷ os))
    by true is h =
        let same : text_at log l.1 ≡ o.text.items = (bytes_eq-Decides (text_at log l.1) o.text.items).0 is in
        rw add-one (λ k. same k ∷ h k)
    by false is h = refl

pub differ_next : (log : List ℕ) (ls : List Logged) (os : List Owed) → agreed log ls os < length ls → slice_get (texts_in log ls) (agreed log ls os) ≢ slice_get (owed_texts os) (agreed log ls os)
differ_next log [] os low = absurd (omega arith)
differ_next log (l ∷ ls) [] low = λ e. cc
differ_next log (l ∷ ls) (o ∷ os) low = by (is_owed log l.1 o) refl low (differ_next log ls os)
  where
    by : (b : Bool) → is_owed log l.1 o ≡ b → counted b (agreed log ls os) < length (l ∷ ls) → (agreed log ls os < length ls → slice_get (texts_in log ls) (agreed log ls os) ≢ slice_get (owed_texts os) (agreed log ls os))
        → slice_get (texts_in log (l ∷ ls)) (counted b (agreed log ls os)) ≢ slice_get (owed_texts (o ∷ os)) (counted b (agreed log ls os))
    by true is low h = rw add-one (h (omega arith))
    by false is low h = λ e.
        let same : text_at log l.1 ≡ o.text.items = cc in
        absurd (false≢true (sym is ∙ (bytes_eq-Decides (text_at log l.1) o.text.items).1 same))

pub says : (conflict : Option Conflict) (log : List ℕ) (ls : List Logged) (os : List Owed) → Says (comparison_of conflict (agreed log ls os) (length ls) (length os)) conflict (agreed log ls os) (texts_in log ls) (owed_texts os)
says (Some c) log ls os = (same_front log ls os, λ none. absurd (cc))
says None log ls os = by (nat_lt (agreed log ls os) (length ls)) refl (agreed log ls os == length os) refl
  where
    by : (less : Bool) → nat_lt (agreed log ls os) (length ls) ≡ less → (all : Bool) → (agreed log ls os == length os) ≡ all
        → Says (if less then Differs else (if all then All else FirstPart)) None (agreed log ls os) (texts_in log ls) (owed_texts os)
    by true less all is =
        let low : agreed log ls os < length ls = grind (arith, nat_tests) in
        (same_front log ls os, λ none. (omega (arith, length-texts log ls), differ_next log ls os low))
    by false less true is =
        let high : length ls ≤ agreed log ls os = grind (arith, nat_tests) in
        let whole : agreed log ls os ≡ length os = grind (arith, nat_tests) in
        (refl, sym (take_all (agreed log ls os) (texts_in log ls) (omega (arith, length-texts log ls))) ∙ same_front log ls os ∙ take_all (agreed log ls os) (owed_texts os) (omega (arith, length-owed os)))
    by false less false is =
        let high : length ls ≤ agreed log ls os = grind (arith, nat_tests) in
        let w = within log ls os in
        let low : agreed log ls os < length os = grind (arith, nat_tests) in
        (refl, omega (arith, length-owed os), sym (take_all (agreed log ls os) (texts_in log ls) (omega (arith, length-texts log ls))) ∙ same_front log ls os)
