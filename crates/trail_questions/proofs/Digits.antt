-- Numbers in words.
use Rattle.std.proofs.Common.{◌≡◌, ◌≢◌, ◌⊎◌, inl, inr, ℕ, ◌+◌, ◌%◌, ◌^◌, ◌<◌, ◌≤◌, ◌∷◌, [], ◌++◌, Bor, List, Option, None, Some, Result, Ok, Bool, true, false, ap, append_assoc, codes, decimal, drop, length, refl, sym, ◌∙◌, arith, get_or, ◌==◌}
use Rattle.std.specs.Str.{bytes_eq}
use Rattle.std.specs.List.{position_or_len}
use Rattle.std.proofs.lemmas.Bool.{eq-eqb, ne_eqb}
use Rattle.std.proofs.lemmas.Fmt.{decimal_by_steps}
use Rattle.std.proofs.Common.{length-append}
use Rattle.std.proofs.Math.Seq.{get_or-append_seam}
use Rattle.std.proofs.lemmas.List.Folds.{position_or_len_push}
use Rattle.std.proofs.lemmas.List.Sums.{fails_before_first}
use Rattle.std.proofs.lemmas.Slice.Eq.{bytes_eq-Decides}
use Rattle.std.proofs.lemmas.Str.Pattern.{IsSplitOnceResult, split_after, split_parts}
use Rattle.trail_answers.specs.declared.scope.RowSpan.{RowSpan}
use Rattle.trail_questions.specs.Numbers.{SpellsSpan}

-- the digits behind the letter of a word that prints a number
pub digits_behind : (letter : ℕ) (word digits : List ℕ) (number x : ℕ) → digits ≡ drop x word → x ≡ 1 → word ≡ letter ∷ decimal number → digits ≡ decimal number
digits_behind letter word digits number x is one printed = is ∙ (λ k. drop (one k) (printed k))

pub same_number : (a b : ℕ) (r : Result ℕ ℕ) → r ≡ Ok a → r ≡ Ok b → a ≡ b
same_number a b r one other = let e = sym one ∙ other in cc

-- equal texts are not distinguished
pub never : (xs ys : List ℕ) → xs ≡ ys → bytes_eq xs ys ≡ false → ⊥
never xs ys same apart = let one : true ≡ false = sym ((bytes_eq-Decides xs ys).1 same) ∙ apart in absurd (cc)

abbrev dash : ℕ → Bool
dash b = b == 45

-- the digits of a number have no dash
dashless : (n : ℕ) → n < 2 ^ 64 → position_or_len dash (decimal n) ≡ length (decimal n)
dashless = decimal_by_steps (λ n ds. position_or_len dash ds ≡ length ds) one more
  where
    one : (n : ℕ) → n < 10 → position_or_len dash ((48 + n) ∷ []) ≡ 1
    one n low = rw (ne_eqb (48 + n) 45 (λ e. absurd (omega (arith, e))))

    more : (n : ℕ) (ds : List ℕ) → 10 ≤ n → position_or_len dash ds ≡ length ds → position_or_len dash (ds ++ ((48 + n % 10) ∷ [])) ≡ length (ds ++ ((48 + n % 10) ∷ []))
    more n ds large before =
        let y : ℕ = 48 + n % 10 in
        let apart : dash y ≡ false = ne_eqb y 45 (λ e. absurd (omega (arith, e))) in
        let full : length (ds ++ y ∷ []) ≡ length ds + 1 = length-append ds (y ∷ []) in
        position_or_len_push dash ds y ∙ rw before (rw (eq-eqb (length ds) (length ds) refl) (rw apart (sym full)))

no_dash : (n : ℕ) → n < 2 ^ 64 → (i : ℕ) → i < length (decimal n) → get_or (decimal n) i 0 ≢ 45
no_dash n low i below = λ is.
    let apart : dash (get_or (decimal n) i 0) ≡ false = fails_before_first dash (decimal n) i 0 (rw (dashless n low) below) in
    let one : true ≡ false = sym (ap dash is) ∙ apart in absurd (cc)

no_seam : (n : ℕ) → n < 2 ^ 64 → (xs ys : List ℕ) → decimal n ≡ xs ++ 45 ∷ ys → ⊥
no_seam n low xs ys is =
    no_dash n low (length xs) (rw is (rw (length-append xs (45 ∷ ys)) (omega arith))) (rw is (get_or-append_seam xs 45 ys 0))

with_dash : (word first last : List ℕ) → word ≡ first ++ codes "-" ++ last → word ≡ first ++ 45 ∷ last
with_dash word first last is = is ∙ append_assoc first (codes "-") last

-- what stands before the first dash of a word for rows, and behind it
pub spelled_parts : (word : List ℕ) (first last : Bor (List ℕ)) → IsSplitOnceResult 45 word (Some (first, last)) → (span : RowSpan) → span.first < 2 ^ 64 → span.last < 2 ^ 64
    → SpellsSpan word span → (first.now ≡ decimal span.first) × (last.now ≡ decimal span.last)
spelled_parts word first last split span low high (inl one) =
    let parts = split_parts 45 word (Some (first, last)) split (omega arith) in
    absurd (no_seam span.first low first.now last.now (sym one.0 ∙ parts.0))
spelled_parts word first last split span low high (inr two) =
    split_after 45 word (decimal span.first) (decimal span.last) (Some (first, last)) split (omega arith) (with_dash word (decimal span.first) (decimal span.last) two) (no_dash span.first low)

-- a word for rows that has no dash
pub undashed : (word : List ℕ) → IsSplitOnceResult 45 word None → (span : RowSpan) → span.first < 2 ^ 64 → span.last < 2 ^ 64 → SpellsSpan word span
    → (word ≡ decimal span.first) × (span.first ≡ span.last)
undashed word split span low high (inl one) = one
undashed word split span low high (inr two) =
    absurd (split_after 45 word (decimal span.first) (decimal span.last) None split (omega arith) (with_dash word (decimal span.first) (decimal span.last) two) (no_dash span.first low))

some_is : (a b : ℕ) → Some a ≡ Some b → a ≡ b
some_is a b same = cc

pub one_row : (n : ℕ) (span : RowSpan) → Some n ≡ Some span.first → span.first ≡ span.last → Some (record { first = n; last = n }) ≡ Some span
one_row n span same single =
    let first : n ≡ span.first = some_is n span.first same in
    let last : n ≡ span.last = first ∙ single in
    λ k. Some (record { first = first k; last = last k })

pub none_found : (a : ℕ) (span : RowSpan) → None ≡ Some a → None ≡ Some span
none_found a span never = absurd (cc)
