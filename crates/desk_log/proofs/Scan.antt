-- A log read frame by frame.
use Rattle.std.proofs.Common.{◌≡◌, ℕ, zero, suc, ◌+◌, ◌-◌, ◌<◌, ◌≤◌, List, [], ◌∷◌, ◌++◌, length, take, drop, get_or, Option, None, Some, refl, sym, ap, ◌∙◌, arith, add-one, append-nil, append_assoc}
use Rattle.std.proofs.Math.Seq.{drop-cons}
use Rattle.std.proofs.lemmas.List.{drop-drop, drop_all, take_rest}
use Rattle.desk_log.specs.declared.frames.BrokenFrame.{BrokenFrame}
use Rattle.desk_log.specs.declared.frames.Look.{Look}
use Rattle.desk_log.specs.declared.frames.Look.TheVariants.{Frame, Broken, Nothing}
use Rattle.desk_log.specs.declared.frames.Span.{Span}
use Rattle.desk_log.specs.Frames.{bodies_from, broken_from, broken_or, either, inside, look, outside_from, outside_of, spans}
use Rattle.desk_log.specs.Scan.{bodies_with, broken_at, broken_with, outside_with}

front : (s : List ℕ) (at : ℕ) → at < length s → drop at s ≡ get_or s at 0 ∷ drop (suc at) s
front s at low = drop-cons s at 0 low

-- the bytes of a frame are passed

bodies_passed : (n at : ℕ) (s : List ℕ) → bodies_from at n s ≡ bodies_from (at + n) 0 (drop n s)
bodies_passed zero at s = ap (λ (k : ℕ). bodies_from k 0 s) (let e : at ≡ at + 0 = omega arith in e)
bodies_passed (suc n) at [] = refl
bodies_passed (suc n) at (c ∷ cs) = bodies_passed n (suc at) cs ∙ ap (λ (k : ℕ). bodies_from k 0 (drop n cs)) (let e : suc at + n ≡ at + suc n = omega arith in e)

outside_passed : (n : ℕ) (s : List ℕ) → outside_from n s ≡ outside_from 0 (drop n s)
outside_passed zero s = refl
outside_passed (suc n) [] = refl
outside_passed (suc n) (c ∷ cs) = outside_passed n cs

broken_passed : (n at : ℕ) (s : List ℕ) → broken_from at n s ≡ broken_from (at + n) 0 (drop n s)
broken_passed zero at s = ap (λ (k : ℕ). broken_from k 0 s) (let e : at ≡ at + 0 = omega arith in e)
broken_passed (suc n) at [] = refl
broken_passed (suc n) at (c ∷ cs) = broken_passed n (suc at) cs ∙ ap (λ (k : ℕ). broken_from k 0 (drop n cs)) (let e : suc at + n ≡ at + suc n = omega arith in e)

-- a byte at which this begins

bodies_here : (s : List ℕ) (at : ℕ) (l : Look) → at < length s → l ≡ look (drop at s) → bodies_from at 0 (drop at s) ≡ spans at l ++ bodies_from (at + 1) (inside l) (drop (at + 1) s)
bodies_here s at l low is = rw (is, front s at low, add-one)

outside_here : (s : List ℕ) (at : ℕ) (l : Look) → at < length s → l ≡ look (drop at s) → outside_from 0 (drop at s) ≡ outside_of l + outside_from (inside l) (drop (at + 1) s)
outside_here s at l low is = rw (is, front s at low, add-one)

broken_here : (s : List ℕ) (at : ℕ) (l : Look) → at < length s → l ≡ look (drop at s) → broken_from at 0 (drop at s) ≡ broken_or at l (broken_from (at + 1) (inside l) (drop (at + 1) s))
broken_here s at l low is = rw (is, front s at low, add-one)

-- One step of the reader.

pub found : (s : List ℕ) (at : ℕ) (l : Look) → l ≡ look (take (length s - at) (drop at s)) → l ≡ look (drop at s)
found s at l is = is ∙ ap look (take_rest s at)

pub bodies_taken : (s : List ℕ) (at : ℕ) (l : Look) (old new : List Span) → at < length s → l ≡ look (drop at s) → new ≡ old ++ spans at l → bodies_with new (at + 1 + inside l) s ≡ bodies_with old at s
bodies_taken s at l old new low is pushed =
    let rest = bodies_from (at + 1 + inside l) 0 (drop (at + 1 + inside l) s) in
    let passed : bodies_from (at + 1) (inside l) (drop (at + 1) s) ≡ rest =
    bodies_passed (inside l) (at + 1) (drop (at + 1) s) ∙ ap (λ (x : List ℕ). bodies_from (at + 1 + inside l) 0 x) (drop-drop (inside l) (at + 1) s) in
    ap (λ (x : List Span). x ++ rest) pushed
    ∙ append_assoc old (spans at l) rest
    ∙ ap (λ (x : List Span). old ++ (spans at l ++ x)) (sym passed)
    ∙ ap (λ (x : List Span). old ++ x) (sym (bodies_here s at l low is))

pub outside_taken : (s : List ℕ) (at : ℕ) (l : Look) (old new : ℕ) → at < length s → l ≡ look (drop at s) → new ≡ old + outside_of l → outside_with new (at + 1 + inside l) s ≡ outside_with old at s
outside_taken s at l old new low is counted =
    let passed : outside_from (inside l) (drop (at + 1) s) ≡ outside_from 0 (drop (at + 1 + inside l) s) =
    outside_passed (inside l) (drop (at + 1) s) ∙ ap (λ (x : List ℕ). outside_from 0 x) (drop-drop (inside l) (at + 1) s) in
    let here = outside_here s at l low is in
    omega (arith, counted, passed, here)

either_or : (first : Option BrokenFrame) (at : ℕ) (l : Look) (rest : Option BrokenFrame) → either (either first (broken_at at l)) rest ≡ either first (broken_or at l rest)
either_or (Some b) at l rest = refl
either_or None at (Frame start end) rest = refl
either_or None at (Broken fault) rest = refl
either_or None at Nothing rest = refl

pub broken_taken : (s : List ℕ) (at : ℕ) (l : Look) (old new : Option BrokenFrame) → at < length s → l ≡ look (drop at s) → new ≡ either old (broken_at at l) → broken_with new (at + 1 + inside l) s ≡ broken_with old at s
broken_taken s at l old new low is kept =
    let rest = broken_from (at + 1 + inside l) 0 (drop (at + 1 + inside l) s) in
    let passed : broken_from (at + 1) (inside l) (drop (at + 1) s) ≡ rest =
    broken_passed (inside l) (at + 1) (drop (at + 1) s) ∙ ap (λ (x : List ℕ). broken_from (at + 1 + inside l) 0 x) (drop-drop (inside l) (at + 1) s) in
    ap (λ (x : Option BrokenFrame). either x rest) kept
    ∙ either_or old at l rest
    ∙ ap (λ (x : Option BrokenFrame). either old (broken_or at l x)) (sym passed)
    ∙ ap (λ (x : Option BrokenFrame). either old x) (sym (broken_here s at l low is))

-- at the end of a log

pub bodies_over : (s : List ℕ) (at : ℕ) (found : List Span) → length s ≤ at → bodies_with found at s ≡ found
bodies_over s at found past = ap (λ (x : List ℕ). found ++ bodies_from at 0 x) (drop_all at s past) ∙ append-nil found

pub outside_over : (s : List ℕ) (at count : ℕ) → length s ≤ at → outside_with count at s ≡ count
outside_over s at count past = ap (λ (x : List ℕ). count + outside_from 0 x) (drop_all at s past) ∙ (let e : count + 0 ≡ count = omega arith in e)

pub broken_over : (s : List ℕ) (at : ℕ) (first : Option BrokenFrame) → length s ≤ at → broken_with first at s ≡ first
broken_over s at first past = ap (λ (x : List ℕ). either first (broken_from at 0 x)) (drop_all at s past) ∙ none first where
  none : (first : Option BrokenFrame) → either first None ≡ first
  none (Some b) = refl
  none None = refl
