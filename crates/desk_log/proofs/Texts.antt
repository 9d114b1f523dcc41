-- A body read piece by piece.
use Rattle.std.proofs.Common.{◌≡◌, ℕ, ◌-◌, ◌<◌, ◌==◌, Bool, true, false, List, [], ◌∷◌, ◌++◌, length, take, refl, sym, ap, ◌∙◌, cond, append_assoc, length-append, arith}
use Rattle.std.proofs.Math.Seq.{take-append_seam}
use Rattle.fix_fields.specs.Cut.{behind}
use Rattle.desk_log.specs.Bodies.{byte_if, is_header, text_from, text_of}

-- the first piece, with its SOH
abbrev piece_with : List ℕ → List ℕ
piece_with [] = []
piece_with (c ∷ cs) = cond (c == 1) (c ∷ []) (c ∷ piece_with cs)

parts : (s : List ℕ) → piece_with s ++ behind 1 s ≡ s
parts [] = refl
parts (c ∷ cs) = by_byte c cs (c == 1) (parts cs) where
  by_byte : (c : ℕ) (cs : List ℕ) (ends : Bool) → piece_with cs ++ behind 1 cs ≡ cs → cond ends (c ∷ []) (c ∷ piece_with cs) ++ cond ends cs (behind 1 cs) ≡ c ∷ cs
  by_byte c cs true h = refl
  by_byte c cs false h = ap (λ (l : List ℕ). c ∷ l) h

-- where a piece begins, what was kept before does not count
again : (kept : Bool) (s : List ℕ) → text_from true kept s ≡ text_of s
again kept [] = refl
again kept (c ∷ cs) = refl

-- the rest of a piece is kept as a whole, or none of it
inside : (kept : Bool) (s : List ℕ) → text_from false kept s ≡ cond kept (piece_with s) [] ++ text_of (behind 1 s)
inside kept [] = none kept where
  none : (kept : Bool) → ◌≡◌ {A = List ℕ} [] (cond kept [] [] ++ [])
  none true = refl
  none false = refl
inside kept (c ∷ cs) = by_byte kept c cs (c == 1) (inside kept cs) where
  by_byte : (kept : Bool) (c : ℕ) (cs : List ℕ) (ends : Bool) → text_from false kept cs ≡ cond kept (piece_with cs) [] ++ text_of (behind 1 cs)
      → byte_if kept c ++ text_from ends kept cs ≡ cond kept (cond ends (c ∷ []) (c ∷ piece_with cs)) [] ++ text_of (cond ends cs (behind 1 cs))
  by_byte true c cs true h = ap (λ (l : List ℕ). c ∷ l) (again true cs)
  by_byte false c cs true h = again false cs
  by_byte true c cs false h = ap (λ (l : List ℕ). c ∷ l) h
  by_byte false c cs false h = h

of_kept : (s : List ℕ) → 0 < length s → is_header s ≡ false → text_of s ≡ piece_with s ++ text_of (behind 1 s)
of_kept [] some no_header = absurd (omega arith)
of_kept (c ∷ cs) some no_header = rw no_header (inside true (c ∷ cs))

of_header : (s : List ℕ) → 0 < length s → is_header s ≡ true → text_of s ≡ text_of (behind 1 s)
of_header [] some header = refl
of_header (c ∷ cs) some header = rw header (inside false (c ∷ cs))

taken : (p r : List ℕ) → take (length (p ++ r) - length r) (p ++ r) ≡ p
taken p r =
    let many : length (p ++ r) - length r ≡ length p = omega (arith, length-append p r) in
    ap (λ (n : ℕ). take n (p ++ r)) many ∙ take-append_seam p r

pub piece_kept : (body rest text new : List ℕ) → 0 < length body → is_header body ≡ false → rest ≡ behind 1 body → new ≡ text ++ take (length body - length rest) body
    → new ++ text_of rest ≡ text ++ text_of body
piece_kept body rest text new some no_header behind_is pushed =
    let cut : take (length body - length rest) body ≡ piece_with body =
    ap (λ (r : List ℕ). take (length body - length r) body) behind_is
    ∙ ap (λ (s : List ℕ). take (length s - length (behind 1 body)) s) (sym (parts body))
    ∙ taken (piece_with body) (behind 1 body) in
    ap (λ (l : List ℕ). l ++ text_of rest) (pushed ∙ ap (λ (l : List ℕ). text ++ l) cut)
    ∙ ap (λ (l : List ℕ). (text ++ piece_with body) ++ text_of l) behind_is
    ∙ append_assoc text (piece_with body) (text_of (behind 1 body))
    ∙ ap (λ (l : List ℕ). text ++ l) (sym (of_kept body some no_header))

pub header_passed : (body rest text : List ℕ) → 0 < length body → is_header body ≡ true → rest ≡ behind 1 body → text ++ text_of rest ≡ text ++ text_of body
header_passed body rest text some header behind_is =
    ap (λ (l : List ℕ). text ++ text_of l) behind_is ∙ ap (λ (l : List ℕ). text ++ l) (sym (of_header body some header))
