-- The account of a line, and the count of its faults.
use Rattle.std.proofs.Common.{◌≡◌, ℕ, ◌+◌, List, [], ◌∷◌, ◌++◌, refl, ap, arith, min}
use Rattle.gateway.specs.declared.mem_line.LineEvent.{LineEvent}
use Rattle.gateway.specs.Said.{Said, fault_of, faults_in}
use Rattle.gateway.specs.Memory.{said_of, said_in, fault_count}

pub said_in-more : (xs : List LineEvent) (x : LineEvent) → said_in (xs ++ x ∷ []) ≡ said_in xs ++ said_of x ∷ []
said_in-more [] x = refl
said_in-more (y ∷ xs) x = ap (λ (said : List Said). said_of y ∷ said) (said_in-more xs x)

pub faults_in-more : (xs : List Said) (x : Said) → faults_in (xs ++ x ∷ []) ≡ faults_in xs + fault_of x
faults_in-more [] x = omega arith
faults_in-more (y ∷ xs) x = let e = faults_in-more xs x in rw e (omega arith)

min_again : (n m k : ℕ) → min (min n k + m) k ≡ min (n + m) k
min_again n m k = omega arith

pub counted-more : (past : List LineEvent) (x : LineEvent) (faults more new k : ℕ) → faults ≡ min (fault_count past) k → more ≡ fault_of (said_of x) → new ≡ min (faults + more) k →
    new ≡ min (fault_count (past ++ x ∷ [])) k
counted-more past x faults more new k counted is added =
    rw (said_in-more past x, faults_in-more (said_in past) (said_of x), added, counted, is) (min_again (fault_count past) (fault_of (said_of x)) k)
