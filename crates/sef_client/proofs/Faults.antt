-- The faults in the account of a line, counted one by one.
use Rattle.std.proofs.Common.{◌≡◌, ◌+◌, ℕ, List, [], ◌∷◌, ◌++◌, arith}
use Rattle.gateway.specs.Said.{Said, fault_of, faults_in}

faults_more : (xs : List Said) (x : Said) → faults_in (xs ++ x ∷ []) ≡ faults_in xs + fault_of x
faults_more [] x = omega arith
faults_more (y ∷ ys) x = let e = faults_more ys x in rw e (omega arith)

-- a further entry of the line adds its faults
pub emitted : (old new : List Said) (x : Said) (n : ℕ) → new ≡ old ++ x ∷ [] → fault_of x ≡ n → faults_in new ≡ faults_in old + n
emitted old new x n is counts = rw (is, ← counts) (faults_more old x)

pub unemitted : (old new : List Said) (x : Said) → new ≡ old ++ x ∷ [] → fault_of x ≡ 0 → faults_in new ≡ faults_in old
unemitted old new x is none = let e = emitted old new x 0 is none in omega (arith, e)
