-- The numbers that no frame has.
use Rattle.std.proofs.Common.{◌≡◌, ℕ, zero, suc, ◌+◌, ◌-◌, ◌<◌, ◌==◌, ◌++◌, Bool, true, false, List, [], ◌∷◌, length, drop, get_or, Option, None, Some, if◌then◌else◌, refl, sym, ap, ◌∙◌, arith, add-one, append_assoc, append-nil}
use Rattle.std.proofs.Math.Seq.{drop-cons}
use Rattle.std.proofs.lemmas.Bool.Decides.{Decides-eqb}
use Rattle.desk_log.specs.declared.missing.Missing.{Missing}
use Rattle.desk_log.specs.declared.numbered.Numbered.{Numbered}
use Rattle.desk_log.specs.declared.numbered.Place.{Place}
use Rattle.desk_log.specs.Missing.{due_behind, first_missing, gaps_in, if_before, led_on, missing_from, nearer, nearest, with_rest}
use Rattle.desk_log.specs.Numbered.{Logged}

front : (fs : List Numbered) (i : ℕ) (f : Numbered) → i < length fs → f ≡ get_or fs i f → drop i fs ≡ f ∷ drop (i + 1) fs
front fs i f low at = rw add-one (drop-cons fs i f low ∙ ap (λ (x : Numbered). x ∷ drop (suc i) fs) (sym at))

-- one frame more
pub due_more : (era due later : ℕ) (fs : List Numbered) (i : ℕ) (f : Numbered) (all : ℕ) → i < length fs → f ≡ get_or fs i f → later ≡ led_on era due f
    → due_behind era due (drop i fs) ≡ all → due_behind era later (drop (i + 1) fs) ≡ all
due_more era due later fs i f all low at led so_far =
    ap (λ (d : ℕ). due_behind era d (drop (i + 1) fs)) led ∙ ap (due_behind era due) (sym (front fs i f low at)) ∙ so_far

pub nearest_more : (era n : ℕ) (found later : Option ℕ) (fs : List Numbered) (i : ℕ) (f : Numbered) (all : Option ℕ) → i < length fs → f ≡ get_or fs i f → later ≡ nearer era n found f
    → nearest era n found (drop i fs) ≡ all → nearest era n later (drop (i + 1) fs) ≡ all
nearest_more era n found later fs i f all low at led so_far =
    ap (λ (o : Option ℕ). nearest era n o (drop (i + 1) fs)) led ∙ ap (nearest era n found) (sym (front fs i f low at)) ∙ so_far

-- one pass more
other : (a b : ℕ) → (a ≡ b → ⊥) → (a == b) ≡ false
other a b differ = by (a == b) refl
  where
    by : (t : Bool) → (a == b) ≡ t → t ≡ false
    by true h = absurd (differ ((Decides-eqb a b).0 h))
    by false h = refl

abbrev chosen : Bool → ℕ → Option ℕ → Option ℕ
chosen b n later = if b then Some n else later

pub pass_more : (era left due later : ℕ) (fs : List Numbered) (all : Option ℕ) → 0 < left → later ≡ due_behind era due fs → (later ≡ due → ⊥) → first_missing era fs left due ≡ all → first_missing era fs (left - 1) later ≡ all
pass_more era zero due later fs all some led differs so_far = absurd (omega (arith, some))
pass_more era (suc k) due later fs all some led differs so_far =
    let fewer : suc k - 1 ≡ k = omega arith in
    ap (λ (j : ℕ). first_missing era fs j later) fewer
    ∙ ap (first_missing era fs k) led
    ∙ sym (ap (λ (b : Bool). chosen b due (first_missing era fs k (due_behind era due fs))) (ap (λ (d : ℕ). d == due) (sym led) ∙ other later due differs))
    ∙ so_far

-- one gap more

pub gap_more : (fs : List Numbered) (later : Option Logged) (left : ℕ) (p q : Place) (m : Missing) (found new all : List Missing) → 0 < left → if_before (missing_from fs p) later ≡ Some m → new ≡ found ++ m ∷ []
    → q ≡ record { era = m.era; number = m.next } → found ++ gaps_in fs later left p ≡ all → new ++ gaps_in fs later (left - 1) q ≡ all
gap_more fs later zero p q m found new all some is pushed goes so_far = absurd (omega (arith, some))
gap_more fs later (suc k) p q m found new all some is pushed goes so_far =
    let fewer : suc k - 1 ≡ k = omega arith in
    ap (λ (j : ℕ). new ++ gaps_in fs later j q) fewer
    ∙ ap (λ (l : List Missing). l ++ gaps_in fs later k q) pushed
    ∙ append_assoc found (m ∷ []) (gaps_in fs later k q)
    ∙ ap (λ (x : Place). found ++ m ∷ gaps_in fs later k x) goes
    ∙ sym (ap (λ (o : Option Missing). found ++ with_rest o (gaps_in fs later k)) is)
    ∙ so_far

pub no_gap : (fs : List Numbered) (later : Option Logged) (left : ℕ) (p : Place) (found all : List Missing) → 0 < left → if_before (missing_from fs p) later ≡ None → found ++ gaps_in fs later left p ≡ all → found ≡ all
no_gap fs later zero p found all some none so_far = absurd (omega (arith, some))
no_gap fs later (suc k) p found all some none so_far =
    sym (append-nil found) ∙ sym (ap (λ (o : Option Missing). found ++ with_rest o (gaps_in fs later k)) none) ∙ so_far

pub times_over : (fs : List Numbered) (later : Option Logged) (left : ℕ) (p : Place) (found all : List Missing) → left ≡ 0 → found ++ gaps_in fs later left p ≡ all → found ≡ all
times_over fs later left p found all over so_far = sym (append-nil found) ∙ sym (ap (λ (k : ℕ). found ++ gaps_in fs later k p) over) ∙ so_far
