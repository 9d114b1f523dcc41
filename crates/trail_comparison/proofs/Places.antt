-- The places at which two files have the same names.
use Rattle.std.proofs.Common.{◌≡◌, ℕ, ◌+◌, Bool, true, false, List, refl, subst, arith}
use Rattle.std.specs.Prelude.{nat_lt}
use Rattle.std.proofs.lemmas.Bool.Decides.{nat_tests}
use Rattle.trail_comparison.specs.Rules.{SameBefore}

pub one_more : (one other : ℕ → List ℕ) (n : ℕ) → SameBefore one other n → one n ≡ other n → SameBefore one other (n + 1)
one_more one other n before here k low = by (nat_lt k n) refl
  where
    by : (b : Bool) → nat_lt k n ≡ b → one k ≡ other k
    by true e = before k (grind (arith, nat_tests))
    by false e = let same : n ≡ k = grind (arith, nat_tests) in subst (λ (j : ℕ). one j ≡ other j) same here
