use Rattle.std.proofs.Common.{◌≡◌, refl, sym, ap, ◌∙◌, ℕ, ◌+◌, ◌≤◌, ◌<◌, get_or, List, [], ◌∷◌, ◌++◌, length, take, drop, Option, Some, None, append_assoc, append-nil}
use Rattle.std.specs.List.{cons_option}
use Rattle.std.proofs.lemmas.List.{drop_more, take_more, drop_all}
use Rattle.std.proofs.lemmas.List.Elements.{filter_map-append}
use Rattle.venue_rules.specs.declared.facts.Fact.{Fact}
use Rattle.venue_rules.specs.declared.facts.HeldSide.{HeldSide}
use Rattle.client_ids.specs.declared.client_id.ClientId.{ClientId}
use Rattle.cross_delay.specs.ByDue.{step, steps}
use Rattle.cross_delay.specs.Used.{cross_name, cross_names, order_name, order_names}

-- A further added fact.

drop-read : (fs : List Fact) (i : ℕ) (f : Fact) → i < length fs → f ≡ get_or fs i f → drop i fs ≡ f ∷ drop (i + 1) fs
drop-read fs i f h e = drop_more fs i f h ∙ ap (λ g. g ∷ drop (i + 1) fs) (sym e)

take-read : (fs : List Fact) (i : ℕ) (f : Fact) → i < length fs → f ≡ get_or fs i f → take (i + 1) fs ≡ take i fs ++ f ∷ []
take-read fs i f h e = take_more fs i f h ∙ ap (λ g. take i fs ++ g ∷ []) (sym e)

-- its effect on the sides

pub steps-more : (hs : List HeldSide) (fs : List Fact) (i : ℕ) (f : Fact) → i < length fs → f ≡ get_or fs i f → steps hs (drop i fs) ≡ steps (step hs f) (drop (i + 1) fs)
steps-more hs fs i f h e = ap (steps hs) (drop-read fs i f h e)

pub steps-end : (hs : List HeldSide) (fs : List Fact) (i : ℕ) → length fs ≤ i → steps hs (drop i fs) ≡ hs
steps-end hs fs i h = ap (steps hs) (drop_all i fs h)

pub ruleset steps_on = (steps-more, steps-end)

-- the identifiers that it uses

order-more : (fs : List Fact) (i : ℕ) (f : Fact) → i < length fs → f ≡ get_or fs i f → order_names (take (i + 1) fs) ≡ order_names (take i fs) ++ cons_option (order_name f) []
order-more fs i f h e = ap order_names (take-read fs i f h e) ∙ filter_map-append order_name (take i fs) (f ∷ [])

pub order-some : (fs : List Fact) (i : ℕ) (f : Fact) (n : ClientId) → i < length fs → f ≡ get_or fs i f → order_name f ≡ Some n → order_names (take (i + 1) fs) ≡ order_names (take i fs) ++ n ∷ []
order-some fs i f n h e some = order-more fs i f h e ∙ ap (λ o. order_names (take i fs) ++ cons_option o []) some

pub order-none : (fs : List Fact) (i : ℕ) (f : Fact) → i < length fs → f ≡ get_or fs i f → order_name f ≡ None → order_names (take (i + 1) fs) ≡ order_names (take i fs)
order-none fs i f h e none = order-more fs i f h e ∙ ap (λ o. order_names (take i fs) ++ cons_option o []) none ∙ append-nil (order_names (take i fs))

pub ruleset order_names_on = (order-some, order-none, append_assoc)

cross-more : (fs : List Fact) (i : ℕ) (f : Fact) → i < length fs → f ≡ get_or fs i f → cross_names (take (i + 1) fs) ≡ cross_names (take i fs) ++ cons_option (cross_name f) []
cross-more fs i f h e = ap cross_names (take-read fs i f h e) ∙ filter_map-append cross_name (take i fs) (f ∷ [])

pub cross-some : (fs : List Fact) (i : ℕ) (f : Fact) (n : ClientId) → i < length fs → f ≡ get_or fs i f → cross_name f ≡ Some n → cross_names (take (i + 1) fs) ≡ cross_names (take i fs) ++ n ∷ []
cross-some fs i f n h e some = cross-more fs i f h e ∙ ap (λ o. cross_names (take i fs) ++ cons_option o []) some

pub cross-none : (fs : List Fact) (i : ℕ) (f : Fact) → i < length fs → f ≡ get_or fs i f → cross_name f ≡ None → cross_names (take (i + 1) fs) ≡ cross_names (take i fs)
cross-none fs i f h e none = cross-more fs i f h e ∙ ap (λ o. cross_names (take i fs) ++ cons_option o []) none ∙ append-nil (cross_names (take i fs))

pub ruleset cross_names_on = (cross-some, cross-none, append_assoc)
