-- The first entry with a fault.
use Rattle.std.proofs.Common.{◌≡◌, refl, sym, ap, ◌∙◌, ℕ, suc, zero, ◌+◌, ◌<◌, List, [], ◌∷◌, ◌++◌, length, take, get_or, Option, Some, None, append-nil, append_assoc, arith}
use Rattle.std.proofs.lemmas.List.{length-append}
use Rattle.toml.specs.Data.{Data, get}
use Rattle.config_format.specs.Document.{entries_in}
use Rattle.file_diagnosis.specs.declared.cause.Cause.{Cause}
use Rattle.file_diagnosis.specs.declared.cause.Look.{Look}
use Rattle.file_diagnosis.specs.declared.cause.Part.{Part}
use Rattle.file_diagnosis.specs.declared.cause.Wrong.{Wrong}
use Rattle.file_diagnosis.specs.Causes.{at, first_from, or_later, part_word, wrong_in}
use Rattle.file_diagnosis.specs.First.{AreFirst}

-- the same of the entries after some
record IsFirstAfter (file : Data) (p : Part) (l : Look) (before es : List Data) (cause : Cause) : Type 0 where
  k : ℕ
  within : k < length es
  here : cause ≡ at p (length before + k + 1) cause.wrong
  wrong : (d : Data) → wrong_in file l (before ++ take k es) (get_or es k d) ≡ Some cause.wrong
  earlier : (j : ℕ) (d : Data) → j < k → wrong_in file l (before ++ take j es) (get_or es j d) ≡ None

first_after : (file : Data) (p : Part) (l : Look) (before es : List Data) (cause : Cause) → first_from file p l before es ≡ Some cause → IsFirstAfter file p l before es cause
first_after file p l before [] cause is = absurd (cc)
first_after file p l before (e ∷ es) cause is = by (wrong_in file l before e) refl (first_after file p l (before ++ (e ∷ [])) es cause)
  where
    one_more : (n k : ℕ) → n + 1 + k + 1 ≡ n + suc k + 1
    one_more n k = omega arith

    before_it : (rest : IsFirstAfter file p l (before ++ (e ∷ [])) es cause) → wrong_in file l before e ≡ None → (j : ℕ) (d : Data) → j < suc rest.k → wrong_in file l (before ++ take j (e ∷ es)) (get_or (e ∷ es) j d) ≡ None
    before_it rest found zero d h = ap (λ ds. wrong_in file l ds e) (append-nil before) ∙ found
    before_it rest found (suc j) d h = ap (λ ds. wrong_in file l ds (get_or es j d)) (sym (append_assoc before (e ∷ []) (take j es))) ∙ rest.earlier j d (omega (arith, h))

    by : (w : Option Wrong) → wrong_in file l before e ≡ w → (first_from file p l (before ++ (e ∷ [])) es ≡ Some cause → IsFirstAfter file p l (before ++ (e ∷ [])) es cause) → IsFirstAfter file p l before (e ∷ es) cause
    by (Some w) found more =
        let same : or_later p (length before + 1) (Some w) (first_from file p l (before ++ (e ∷ [])) es) ≡ Some cause = ap (λ x. or_later p (length before + 1) x (first_from file p l (before ++ (e ∷ [])) es)) (sym found) ∙ is in
        let this : at p (length before + 1) w ≡ cause = cc in
        record {
          k = 0;
          within = omega arith;
          here = sym this ∙ ap (λ n. at p n w) (omega arith) ∙ ap (λ (c : Cause). at p (length before + 0 + 1) c.wrong) this;
          wrong = λ d. ap (λ ds. wrong_in file l ds e) (append-nil before) ∙ (found ∙ ap (λ (c : Cause). Some c.wrong) this);
          earlier = λ j d h. absurd (omega arith);
        }
    by None found more =
        let later : first_from file p l (before ++ (e ∷ [])) es ≡ Some cause = ap (λ x. or_later p (length before + 1) x (first_from file p l (before ++ (e ∷ [])) es)) (sym found) ∙ is in
        let rest = more later in
        record {
          k = suc rest.k;
          within = omega (arith, rest.within);
          here = rest.here ∙ ap (λ n. at p n cause.wrong) (ap (λ n. n + rest.k + 1) (length-append before (e ∷ [])) ∙ one_more (length before) rest.k);
          wrong = λ d. ap (λ ds. wrong_in file l ds (get_or es rest.k d)) (sym (append_assoc before (e ∷ []) (take rest.k es))) ∙ rest.wrong d;
          earlier = before_it rest found;
        }

pub are_first : AreFirst
are_first file p l cause is =
    let found = first_after file p l [] (entries_in (get (part_word p) file)) cause is in
    record { k = found.k; within = found.within; here = found.here ∙ ap (λ n. at p n cause.wrong) (from_zero found.k); wrong = found.wrong; earlier = found.earlier }
  where
    from_zero : (k : ℕ) → 0 + k + 1 ≡ k + 1
    from_zero k = omega arith
