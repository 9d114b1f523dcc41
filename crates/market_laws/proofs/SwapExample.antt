use Rattle.std.proofs.Common.{◌≡◌, refl, sym, ap, ap₂, ◌∙◌, subst, inl, inr, ◌⊎◌, ℕ, zero, suc, Bool, true, false, ◌&&◌, ◌||◌, ◌==◌, if◌then◌else◌, List, [], ◌∷◌, Option, option_map, position, slice_index_or, bytes_eq, codes, eq-eqb, eqb-true, ne_eqb}
use Rattle.std.proofs.lemmas.Bool.{cases_Bool, eqb-false, true≢false}
use Rattle.std.proofs.lemmas.Slice.Eq.{bytes_eq-Decides}
use Rattle.participants.specs.ParticipantFile.{ParticipantFile}
use Rattle.participants.specs.Relations.{find_participant, name_of, related}
use Rattle.venue_rules.specs.Fixture.{fixture_participants}
use Rattle.market_laws.specs.Renaming.{IsRenamed, Renaming}

-- A renaming that meets the premise: BETA and DELTA in each other's places.

abbrev place : ℕ → ℕ
place n = if n == 1 then 3 else if n == 3 then 1 else n

abbrev swapped : Renaming
swapped = record { place = place; name = λ name. name }

-- BETA stays related to GAMMA
abbrev swapped_file : ParticipantFile
swapped_file = record { venue = codes "SEF"; names = codes "ALPHA" ∷ codes "DELTA" ∷ codes "GAMMA" ∷ codes "BETA" ∷ codes "EPSILON" ∷ []; pairs = (3, 2) ∷ [] }

twice : (n : ℕ) → place (place n) ≡ n
twice n = one (n == 1) refl
  where
    other : (n == 1) ≡ false → (b : Bool) → (n == 3) ≡ b → place (place n) ≡ n
    other f true e = subst (λ k. place (place k) ≡ k) (sym (eqb-true n 3 e)) refl
    other f false e =
        let still : place n ≡ n = ap₂ (λ a b. if a then 3 else if b then 1 else n) f e in
        ap place still ∙ still

    one : (b : Bool) → (n == 1) ≡ b → place (place n) ≡ n
    one true e = subst (λ k. place (place k) ≡ k) (sym (eqb-true n 1 e)) refl
    one false e = other e (n == 3) refl

apart : (a b : ℕ) → place a ≡ place b → a ≡ b
apart a b e = sym (twice a) ∙ (ap place e ∙ twice b)

same_place : (a b : ℕ) → (place a == place b) ≡ (a == b)
same_place a b = by (a == b) refl
  where
    by : (c : Bool) → (a == b) ≡ c → (place a == place b) ≡ c
    by true e = eq-eqb (place a) (place b) (ap place (eqb-true a b e))
    by false e = ne_eqb (place a) (place b) (λ same. eqb-false a b e (apart a b same))

five : (g : Bool → Bool → Bool → Bool → Bool → Option ℕ) (a b c d e : Bool) → a ≡ false → b ≡ false → c ≡ false → d ≡ false → e ≡ false → g a b c d e ≡ g false false false false false
five g a b c d e i j k l m = ap (λ x. g x b c d e) i ∙ (ap (λ x. g false x c d e) j ∙ (ap (λ x. g false false x d e) k ∙ (ap (λ x. g false false false x e) l ∙ ap (λ x. g false false false false x) m)))

-- the same name, found at its new place
abbrev Found : List ℕ → Type 0
Found name = find_participant swapped_file name ≡ option_map place (find_participant fixture_participants name)

found_as : (name known : List ℕ) → bytes_eq name known ≡ true → Found known → Found name
found_as name known e k = subst Found (sym ((bytes_eq-Decides name known).0 e)) k

found : (name : List ℕ) → Found name
found name = alpha (cases_Bool (bytes_eq name (codes "ALPHA")))
  where
    no : List ℕ → Type 0
    no known = bytes_eq name known ≡ false

    epsilon : no (codes "ALPHA") → no (codes "BETA") → no (codes "GAMMA") → no (codes "DELTA") → (bytes_eq name (codes "EPSILON") ≡ true) ⊎ no (codes "EPSILON") → Found name
    epsilon a b c d (inl e) = found_as name (codes "EPSILON") e refl
    epsilon a b c d (inr e) =
        five (λ v w x y z. position (λ t. t) (v ∷ w ∷ x ∷ y ∷ z ∷ [])) _ _ _ _ _ a d c b e
        ∙ sym (five (λ v w x y z. option_map place (position (λ t. t) (v ∷ w ∷ x ∷ y ∷ z ∷ []))) _ _ _ _ _ a b c d e)

    delta : no (codes "ALPHA") → no (codes "BETA") → no (codes "GAMMA") → (bytes_eq name (codes "DELTA") ≡ true) ⊎ no (codes "DELTA") → Found name
    delta a b c (inl e) = found_as name (codes "DELTA") e refl
    delta a b c (inr e) = epsilon a b c e (cases_Bool (bytes_eq name (codes "EPSILON")))

    gamma : no (codes "ALPHA") → no (codes "BETA") → (bytes_eq name (codes "GAMMA") ≡ true) ⊎ no (codes "GAMMA") → Found name
    gamma a b (inl e) = found_as name (codes "GAMMA") e refl
    gamma a b (inr e) = delta a b e (cases_Bool (bytes_eq name (codes "DELTA")))

    beta : no (codes "ALPHA") → (bytes_eq name (codes "BETA") ≡ true) ⊎ no (codes "BETA") → Found name
    beta a (inl e) = found_as name (codes "BETA") e refl
    beta a (inr e) = gamma a e (cases_Bool (bytes_eq name (codes "GAMMA")))

    alpha : (bytes_eq name (codes "ALPHA") ≡ true) ⊎ no (codes "ALPHA") → Found name
    alpha (inl e) = found_as name (codes "ALPHA") e refl
    alpha (inr e) = beta e (cases_Bool (bytes_eq name (codes "BETA")))

named_at : (n : ℕ) → (n == 1) ≡ false → (n == 3) ≡ false → slice_index_or swapped_file.names n [] ≡ slice_index_or fixture_participants.names n []
named_at zero e f = refl
named_at (suc zero) e f = absurd (true≢false e)
named_at (suc (suc zero)) e f = refl
named_at (suc (suc (suc zero))) e f = absurd (true≢false f)
named_at (suc (suc (suc (suc zero)))) e f = refl
named_at (suc (suc (suc (suc (suc n))))) e f = refl

named : (who : ℕ) → name_of swapped_file (place who) ≡ name_of fixture_participants who
named who = one (who == 1) refl
  where
    other : (who == 1) ≡ false → (b : Bool) → (who == 3) ≡ b → name_of swapped_file (place who) ≡ name_of fixture_participants who
    other f true e = subst (λ k. name_of swapped_file (place k) ≡ name_of fixture_participants k) (sym (eqb-true who 3 e)) refl
    other f false e = ap (name_of swapped_file) (ap₂ (λ a b. if a then 3 else if b then 1 else who) f e) ∙ named_at who f e

    one : (b : Bool) → (who == 1) ≡ b → name_of swapped_file (place who) ≡ name_of fixture_participants who
    one true e = subst (λ k. name_of swapped_file (place k) ≡ name_of fixture_participants k) (sym (eqb-true who 1 e)) refl
    one false e = other e (who == 3) refl

pairs : (a b : ℕ) → related swapped_file (place a) (place b) ≡ related fixture_participants a b
pairs a b = ap₂ (λ x y. (x || y) || false) (ap₂ (λ x y. x && y) (same_place 1 a) (same_place 2 b)) (ap₂ (λ x y. x && y) (same_place 1 b) (same_place 2 a))

pub swap_is_a_renaming : IsRenamed swapped fixture_participants swapped_file
swap_is_a_renaming = record { apart = apart; found = found; named = named; pairs = pairs }
