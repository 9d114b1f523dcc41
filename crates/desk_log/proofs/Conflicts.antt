-- Messages of one place with different texts.
use Rattle.std.proofs.Common.{◌≡◌, ℕ, suc, ◌+◌, ◌<◌, List, length, drop, get_or, Option, None, Some, sym, ap, ◌∙◌, arith}
use Rattle.std.proofs.Math.Seq.{drop-cons}
use Rattle.desk_log.specs.declared.once.Conflict.{Conflict}
use Rattle.desk_log.specs.Numbered.{Logged}
use Rattle.desk_log.specs.Once.{conflict_at, conflict_from, conflict_or, found_at}

here : (log : List ℕ) (all logged : List Logged) (i : ℕ) (l : Logged) → i < length logged → l ≡ get_or logged i l
    → conflict_from log all (drop i logged) ≡ conflict_or (conflict_at log l (found_at l.0 all)) (conflict_from log all (drop (i + 1) logged))
here log all logged i l low at =
    ap (conflict_from log all) (drop-cons logged i l low)
    ∙ ap (λ (x : Logged). conflict_or (conflict_at log x (found_at x.0 all)) (conflict_from log all (drop (suc i) logged))) (sym at)
    ∙ ap (λ (n : ℕ). conflict_or (conflict_at log l (found_at l.0 all)) (conflict_from log all (drop n logged))) (let e : suc i ≡ i + 1 = omega arith in e)

-- one message more that differs from none
pub conflict_more : (log : List ℕ) (all logged : List Logged) (i : ℕ) (l : Logged) (first : Option Conflict) → i < length logged → l ≡ get_or logged i l → conflict_at log l (found_at l.0 all) ≡ None
    → conflict_from log all (drop i logged) ≡ first → conflict_from log all (drop (i + 1) logged) ≡ first
conflict_more log all logged i l first low at none so_far =
    ap (λ (c : Option Conflict). conflict_or c (conflict_from log all (drop (i + 1) logged))) (sym none) ∙ sym (here log all logged i l low at) ∙ so_far

pub conflict_found : (log : List ℕ) (all logged : List Logged) (i : ℕ) (l : Logged) (c : Conflict) (first : Option Conflict) → i < length logged → l ≡ get_or logged i l → conflict_at log l (found_at l.0 all) ≡ Some c
    → conflict_from log all (drop i logged) ≡ first → Some c ≡ first
conflict_found log all logged i l c first low at some so_far =
    ap (λ (x : Option Conflict). conflict_or x (conflict_from log all (drop (i + 1) logged))) (sym some) ∙ sym (here log all logged i l low at) ∙ so_far
