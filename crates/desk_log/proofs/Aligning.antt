-- What is owed, message by message, along what a log has.
use Rattle.std.proofs.Common.{◌≡◌, ℕ, suc, ◌+◌, ◌<◌, not, Bool, true, false, List, [], ◌∷◌, ◌++◌, length, drop, get_or, Option, None, Some, if◌then◌else◌, sym, ap, ◌∙◌, add-one, append_assoc}
use Rattle.std.proofs.Math.Seq.{drop-cons}
use Rattle.desk_log.specs.declared.owed.Owed.{Owed}
use Rattle.desk_log.specs.Absent.{first_left, found_in, others, places_from, taken_in}
use Rattle.desk_log.specs.Comparing.{is_owed}
use Rattle.desk_log.specs.Numbered.{Logged, text_at, texts_in}

front : {X : Type 0} (xs : List X) (i : ℕ) (x : X) → i < length xs → x ≡ get_or xs i x → drop i xs ≡ x ∷ drop (i + 1) xs
front {X} xs i x low at = rw add-one (drop-cons xs i x low ∙ ap (λ (y : X). y ∷ drop (suc i) xs) (sym at))

-- one message of a log more

pub found_more : (log : List ℕ) (once : List Logged) (i : ℕ) (l : Logged) (before behind : List Owed) (found new all : List Bool) → i < length once → l ≡ get_or once i l
    → ((ts : List (List ℕ)) → new ++ found_in ts behind ≡ found ++ found_in (text_at log l.1 ∷ ts) before)
    → found ++ found_in (texts_in log (drop i once)) before ≡ all → new ++ found_in (texts_in log (drop (i + 1) once)) behind ≡ all
found_more log once i l before behind found new all low at takes so_far =
    takes (texts_in log (drop (i + 1) once)) ∙ ap (λ (ls : List Logged). found ++ found_in (texts_in log ls) before) (sym (front once i l low at)) ∙ so_far

pub left_more : (log : List ℕ) (once : List Logged) (i : ℕ) (l : Logged) (before behind : List Owed) (left new all : List Logged) → i < length once → l ≡ get_or once i l
    → ((ts : List (List ℕ)) (ls : List Logged) → new ++ others (taken_in ts behind) ls ≡ left ++ others (taken_in (text_at log l.1 ∷ ts) before) (l ∷ ls))
    → left ++ others (taken_in (texts_in log (drop i once)) before) (drop i once) ≡ all → new ++ others (taken_in (texts_in log (drop (i + 1) once)) behind) (drop (i + 1) once) ≡ all
left_more log once i l before behind left new all low at takes so_far =
    takes (texts_in log (drop (i + 1) once)) (drop (i + 1) once)
    ∙ ap (λ (ls : List Logged). left ++ others (taken_in (texts_in log ls) before) ls) (sym (front once i l low at)) ∙ so_far

-- one place more

abbrev placed : Bool → ℕ → List ℕ
placed f k = if f then [] else k ∷ []

pub place_more : (fs : List Bool) (k : ℕ) (f : Bool) (places new all : List ℕ) → k < length fs → f ≡ get_or fs k f → new ≡ places ++ placed f k
    → places ++ places_from k (drop k fs) ≡ all → new ++ places_from (k + 1) (drop (k + 1) fs) ≡ all
place_more fs k f places new all low at pushed so_far =
    ap (λ (l : List ℕ). l ++ places_from (k + 1) (drop (k + 1) fs)) pushed
    ∙ append_assoc places (placed f k) (places_from (k + 1) (drop (k + 1) fs))
    ∙ ap (λ (l : List Bool). places ++ places_from k l) (sym (front fs k f low at)) ∙ so_far

-- one message that is left over more

abbrev chosen : Bool → Logged → Option Logged → Option Logged
chosen b l rest = if b then Some l else rest

left_step : (log : List ℕ) (left : List Logged) (i : ℕ) (l : Logged) (o : Owed) (b : Bool) (first : Option Logged) → i < length left → l ≡ get_or left i l → is_owed log l.1 o ≡ b
    → first_left log (drop i left) o ≡ first → chosen b l (first_left log (drop (i + 1) left) o) ≡ first
left_step log left i l o b first low at is so_far =
    ap (λ (c : Bool). chosen c l (first_left log (drop (i + 1) left) o)) (sym is)
    ∙ ap (λ (ls : List Logged). first_left log ls o) (sym (front left i l low at)) ∙ so_far

pub left_here : (log : List ℕ) (left : List Logged) (i : ℕ) (l : Logged) (o : Owed) (first : Option Logged) → i < length left → l ≡ get_or left i l → is_owed log l.1 o ≡ true
    → first_left log (drop i left) o ≡ first → Some l ≡ first
left_here log left i l o first low at is so_far = left_step log left i l o true first low at is so_far

pub left_behind : (log : List ℕ) (left : List Logged) (i : ℕ) (l : Logged) (o : Owed) (first : Option Logged) → i < length left → l ≡ get_or left i l → is_owed log l.1 o ≡ false
    → first_left log (drop i left) o ≡ first → first_left log (drop (i + 1) left) o ≡ first
left_behind log left i l o first low at is so_far = left_step log left i l o false first low at is so_far
