use Rattle.std.proofs.Common.{◌≡◌, ◌∙◌, refl, sym, ap, ℕ, Bool, true, false, ◌||◌, not, ◌++◌, cond, List, Result, Ok, Err, OnOk, nat_eq, rules}
use Rattle.std.specs.Result.{is_ok}
use Rattle.std.specs.List.{list_any}
use Rattle.std.specs.Cmp.{IsEquivalence}
use Rattle.std.specs.Cmp.Rules.{comparing}
use Rattle.std.specs.Cmp.Lexicographic.{pointwise}
use Rattle.std.specs.Ordering.{on, eq_of_both}
use Rattle.std.proofs.lemmas.List.Folds.{list_any-append}
use Rattle.client_ids.specs.declared.client_id.ClientId.{ClientId}
use Rattle.client_ids.specs.ClientIds.{is_of}
use Rattle.client_ids.specs.Short.{is_short, HasNone}
use Rattle.client_ids.proofs.Ordered.{one-name}

-- facts about an Ok

pub given-ok : {X E : Type 0} (P : Type 0) (r : Result X E) → is_ok r ≡ true → OnOk r P → P
given-ok P (Ok x) ok h = h
given-ok P (Err e) ok h = cc

or_assoc : (a b c : Bool) → ((a || b) || c) ≡ (a || (b || c))
or_assoc true b c = refl
or_assoc false b c = refl

-- insertion of a name

abbrev pub alike : ClientId → ClientId → Bool
alike = eq_of_both (on (λ (n : ClientId). n.who) nat_eq) (on (λ (n : ClientId). n.id) (pointwise nat_eq))

alike-laws : IsEquivalence alike
alike-laws = search (comparing, rules)

cond-or : (a b : Bool) → cond a true b ≡ (a || b)
cond-or true b = refl
cond-or false b = refl

-- the later names are the earlier ones and this one
abbrev pub Gains : ClientId → List ClientId → List ClientId → Type 0
Gains name old new = (who : ℕ) (id : List ℕ) → list_any (is_of who id) new ≡ (is_of who id name || list_any (is_of who id) old)

pub one-more : (name : ClientId) (old new : List ClientId) → ((q : ClientId) → list_any (alike q) new ≡ cond (alike name q) true (list_any (alike q) old)) → Gains name old new
one-more name old new h who id =
    let q : ClientId = record { who = who; id = id } in
    h q ∙ ap (λ b. cond b true (list_any (alike q) old)) (alike-laws.symm name q) ∙ cond-or (alike q name) (list_any (alike q) old)

-- of two lists, the first or the second gains an element

pub one-more_first : (name : ClientId) (old new others : List ClientId) → Gains name old new → Gains name (old ++ others) (new ++ others)
one-more_first name old new others h who id =
    list_any-append (is_of who id) new others ∙ ap (λ b. b || list_any (is_of who id) others) (h who id)
    ∙ or_assoc (is_of who id name) (list_any (is_of who id) old) (list_any (is_of who id) others) ∙ ap (λ b. is_of who id name || b) (sym (list_any-append (is_of who id) old others))
  where
    or_assoc : (a b c : Bool) → ((a || b) || c) ≡ (a || (b || c))
    or_assoc true b c = refl
    or_assoc false b c = refl

pub one-more_second : (name : ClientId) (others old new : List ClientId) → Gains name old new → Gains name (others ++ old) (others ++ new)
one-more_second name others old new h who id =
    list_any-append (is_of who id) others new ∙ ap (λ b. list_any (is_of who id) others || b) (h who id)
    ∙ swapped (list_any (is_of who id) others) (is_of who id name) (list_any (is_of who id) old) ∙ ap (λ b. is_of who id name || b) (sym (list_any-append (is_of who id) others old))
  where
    swapped : (a b c : Bool) → (a || (b || c)) ≡ (b || (a || c))
    swapped true true c = refl
    swapped true false c = refl
    swapped false b c = refl

-- names without those of a kind, plus one that is not of it
pub still-none : (short : Bool) (name : ClientId) (old new : List ClientId) → is_short name.who name.id ≡ not short → HasNone short old → Gains name old new → HasNone short new
still-none short name old new other none more who id e = more who id ∙ ap (λ b. is_of who id name || b) (none who id e) ∙ by (is_of who id name) refl
  where
    turned : (b : Bool) → not b ≡ b → ⊥
    turned true h = cc
    turned false h = cc

    by : (b : Bool) → is_of who id name ≡ b → (b || false) ≡ false
    by true same = absurd (turned short (sym other ∙ one-name is_short who id name same ∙ e))
    by false same = refl
