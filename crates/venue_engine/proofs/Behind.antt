-- Slow consumers.
use Rattle.std.proofs.Common.{◌≡◌, ℕ, suc, ◌+◌, ◌≤◌, Bool, true, false, List, [], ◌∷◌, length, refl, ap, ◌∙◌, arith, subst, Option, Some, None}
use Rattle.std.specs.Prelude.{◌==◌, ◌&&◌, ◌||◌, not, nat_lt, nat_le, slice_get, if◌then◌else◌}
use Rattle.std.specs.List.{list_all}
use Rattle.std.proofs.lemmas.Bool.Decides.{nat_tests}
use Rattle.venue_rules.specs.declared.replies.Reply.{Reply}
use Rattle.venue_rules.specs.Run.{replies_to}
use Rattle.outbound_queue.specs.Owed.{most_queued}
use Rattle.venue_engine.specs.Outbox.{Waiting}
use Rattle.venue_engine.specs.Outbox.{first_behind, is_behind}
use Rattle.venue_engine.specs.Outbox.{fits}

-- the test of a queue, by the count of its replies
abbrev test : Bool → ℕ → ℕ → Bool
test cut count waiting = not cut && nat_lt 0 count && nat_lt most_queued (waiting + count)

none_for : (cut : Bool) (count waiting : ℕ) → count ≡ 0 → test cut count waiting ≡ false
none_for true count waiting e = refl
none_for false count waiting e = grind (arith, nat_tests)

it_fits : (cut : Bool) (count waiting more : ℕ) → count ≤ more → cut || nat_le (waiting + more) most_queued ≡ true → test cut count waiting ≡ false
it_fits true count waiting more few e = refl
it_fits false count waiting more few e = grind (arith, nat_tests)

-- the number of replies for this one
count : ℕ → List Reply → ℕ
count who replies = length (replies_to who replies)

count_rest : (who : ℕ) (r : Reply) (rest : List Reply) → (r.to == who) ≡ false → count who (r ∷ rest) ≡ count who rest
unfolding count
count_rest who r rest e = rw e refl

count_one : (who : ℕ) (r : Reply) (rest : List Reply) → (r.to == who) ≡ true → count who (r ∷ rest) ≡ suc (count who rest)
unfolding count
count_one who r rest e = rw e refl

count_none : (who : ℕ) → count who [] ≡ 0
unfolding count
count_none who = refl

few_with : (who : ℕ) (r : Reply) (rest : List Reply) (b : Bool) → (r.to == who) ≡ b → count who rest ≤ length rest → count who (r ∷ rest) ≤ suc (length rest)
few_with who r rest true e few = (let one = count_one who r rest e in omega (arith, one, few))
few_with who r rest false e few = (let one = count_rest who r rest e in omega (arith, one, few))

few_for : (who : ℕ) (replies : List Reply) → count who replies ≤ length replies
few_for who [] = omega (arith, count_none who)
few_for who (r ∷ rest) = few_with who r rest (r.to == who) refl (few_for who rest)

-- it has no reply, or they fit
data NoneOrFits (who more : ℕ) (replies : List Reply) (s : Waiting) : Type 0 where
  none : count who replies ≡ 0 → NoneOrFits who more replies s
  that_many_fit : fits more (Some s) ≡ true → NoneOrFits who more replies s

same_number : (a b : ℕ) → (a == b) ≡ true → a ≡ b
same_number a b e = grind (arith, nat_tests)

and_left : (a b : Bool) → a && b ≡ true → a ≡ true
and_left true b e = refl
and_left false b e = e

and_right : (a b : Bool) → a && b ≡ true → b ≡ true
and_right true b e = e
and_right false b e = absurd (cc)

none_or_fits : (replies : List Reply) (ws : List Waiting) (more who : ℕ) (s : Waiting) → slice_get ws who ≡ Some s → list_all (λ (r : Reply). fits more (slice_get ws r.to)) replies ≡ true → NoneOrFits who more replies s
none_or_fits [] ws more who s s_at all = none (count_none who)
none_or_fits (r ∷ rest) ws more who s s_at all = by (r.to == who) refl (none_or_fits rest ws more who s s_at (and_right (fits more (slice_get ws r.to)) (list_all (λ (r : Reply). fits more (slice_get ws r.to)) rest) all))
  where
    by : (b : Bool) → (r.to == who) ≡ b → NoneOrFits who more rest s → NoneOrFits who more (r ∷ rest) s
    by true e others =
        let here : slice_get ws r.to ≡ Some s = ap (slice_get ws) (same_number r.to who e) ∙ s_at in
        that_many_fit (subst (λ (x : Option Waiting). fits more x ≡ true) here (and_left (fits more (slice_get ws r.to)) (list_all (λ (r : Reply). fits more (slice_get ws r.to)) rest) all))
    by false e (none n) = none (count_rest who r rest e ∙ n)
    by false e (that_many_fit f) = that_many_fit f

is_test : (who : ℕ) (replies : List Reply) (s : Waiting) → is_behind who replies s ≡ test s.is_cut (count who replies) (length s.items)
unfolding count
is_test who replies s = refl

not_behind : (who : ℕ) (replies : List Reply) (s : Waiting) → NoneOrFits who (length replies) replies s → is_behind who replies s ≡ false
not_behind who replies s (none n) = is_test who replies s ∙ none_for s.is_cut (count who replies) (length s.items) n
not_behind who replies s (that_many_fit f) = is_test who replies s ∙ it_fits s.is_cut (count who replies) (length s.items) (length replies) (few_for who replies) f

nobody_from : (replies : List Reply) (ws : List Waiting) (k : ℕ) → ((j : ℕ) (s : Waiting) → slice_get ws j ≡ Some s → is_behind (k + j) replies s ≡ false) → first_behind k replies ws ≡ None
nobody_from replies [] k f = refl
nobody_from replies (s ∷ ws) k f =
    let here : is_behind k replies s ≡ false = subst (λ (n : ℕ). is_behind n replies s ≡ false) (let e : k + 0 ≡ k = omega arith in e) (f 0 s refl) in
    ap (λ (b : Bool). if b then Some k else first_behind (k + 1) replies ws) here
    ∙ nobody_from replies ws (k + 1) (λ j z z_at. subst (λ (n : ℕ). is_behind n replies z ≡ false) (let e : k + suc j ≡ k + 1 + j = omega arith in e) (f (suc j) z z_at))

pub nobody_behind : (replies : List Reply) (ws : List Waiting) → list_all (λ (r : Reply). fits (length replies) (slice_get ws r.to)) replies ≡ true → first_behind 0 replies ws ≡ None
nobody_behind replies ws all =
    nobody_from replies ws 0
    (λ j s s_at. subst (λ (n : ℕ). is_behind n replies s ≡ false) (let e : j ≡ 0 + j = omega arith in e) (not_behind j replies s (none_or_fits replies ws (length replies) j s s_at all)))
