use Rattle.std.proofs.Common.{◌≡◌, ℕ, Bool, true, false, not, nat_lt, cond, Some, None, List, length, bytes_eq, position, unwrap_or, refl, ap, ◌∙◌, arith}
use Rattle.std.specs.List.{position_or_len}
use Rattle.std.proofs.lemmas.Bool.Decides.{nat_tests}
use Rattle.std.proofs.lemmas.List.Sums.{prefix_len-le-length}
use Rattle.participants.proofs.reading.place_in.Goals as goal

-- a place, or past the end
at_or_all : (p : List ℕ → Bool) (xs : List (List ℕ)) → unwrap_or (position p xs) (length xs) ≡ position_or_len p xs
at_or_all p xs = by_test (nat_lt (position_or_len p xs) (length xs)) refl
  where
    by_test : (b : Bool) → nat_lt (position_or_len p xs) (length xs) ≡ b → unwrap_or (cond b (Some (position_or_len p xs)) None) (length xs) ≡ position_or_len p xs
    by_test true h = refl
    by_test false h = let le = prefix_len-le-length (λ x. not (p x)) xs in grind (arith, nat_tests)

pub returns-clause-place : goal.returns-clause-place
returns-clause-place c =
    let found = rw c.as_slice.ensures.value at c.place_of.ensures.place in
    c.unwrap_or.ensures ∙ (ap (λ o. unwrap_or o (length c.args.names.now)) found ∙ at_or_all (bytes_eq c.args.name.now) c.args.names.now)

pub returns-clause-within : goal.returns-clause-within
returns-clause-within c = omega (arith, returns-clause-place c, prefix_len-le-length (λ x. not (bytes_eq c.args.name.now x)) c.args.names.now)
