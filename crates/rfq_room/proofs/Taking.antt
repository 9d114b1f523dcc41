use Rattle.std.proofs.Common.{◌≡◌, refl, ap, ◌∙◌, ℕ, ◌+◌, ◌<◌, Bool, true, false, cond, get_or, ◌&&◌, ◌==◌, List, [], ◌∷◌, ◌++◌, length, take, filter, Option, Some, None, bytes_eq}
use Rattle.std.proofs.lemmas.List.Elements.{filter-append}
use Rattle.std.proofs.lemmas.List.{append-nil}
use Rattle.venue_rules.specs.declared.facts.Fact.{Fact}
use Rattle.venue_rules.specs.declared.facts.RoomQuote.{RoomQuote}
use Rattle.venue_rules.specs.Facts.{quotes}
use Rattle.venue_rules.specs.Rooms.{is_live}
use Rattle.rfq_room.specs.Named.{named_quotes}
use Rattle.rfq_room.specs.Views.{taken_of}
use Rattle.rfq_room.proofs.Readings.{take-read}

-- the quotes that a withdrawal withdraws, and a further one

more-taken : (p : RoomQuote → Bool) (qs : List RoomQuote) (i : ℕ) (q : RoomQuote) → i < length qs → q ≡ get_or qs i q → filter p (take (i + 1) qs) ≡ filter p (take i qs) ++ filter p (q ∷ [])
more-taken p qs i q h e = ap (filter p) (take-read qs i q h e) ∙ filter-append p (take i qs) (q ∷ [])

pub taken-found : (p : RoomQuote → Bool) (qs : List RoomQuote) (i : ℕ) (q : RoomQuote) → i < length qs → q ≡ get_or qs i q → p q ≡ true → filter p (take (i + 1) qs) ≡ filter p (take i qs) ++ q ∷ []
taken-found p qs i q h e b = more-taken p qs i q h e ∙ rw b refl

pub taken-passed : (p : RoomQuote → Bool) (qs : List RoomQuote) (i : ℕ) (q : RoomQuote) → i < length qs → q ≡ get_or qs i q → p q ≡ false → filter p (take (i + 1) qs) ≡ filter p (take i qs)
taken-passed p qs i q h e b = more-taken p qs i q h e ∙ rw b (append-nil (filter p (take i qs)))

pub ruleset takings = (taken-found, taken-passed)

-- they are the maker's named live quotes

all-named : (p : RoomQuote → Bool) (qs : List RoomQuote) → filter (λ q. p q && true) qs ≡ filter p qs
all-named p [] = refl
all-named p (q ∷ qs) = one (p q) q (all-named p qs)
  where
    one : (b : Bool) (q : RoomQuote) {xs ys : List RoomQuote} → xs ≡ ys → cond (b && true) (q ∷ xs) xs ≡ cond b (q ∷ ys) ys
    one true q h = ap (λ zs. q ∷ zs) h
    one false q h = h

both-named : (p n : RoomQuote → Bool) (qs : List RoomQuote) → filter (λ q. p q && n q) qs ≡ filter n (filter p qs)
both-named p n [] = refl
both-named p n (q ∷ qs) = one (p q) n q _ (filter p qs) (both-named p n qs)
  where
    two : (b : Bool) (q : RoomQuote) {xs ys : List RoomQuote} → xs ≡ ys → cond b (q ∷ xs) xs ≡ cond b (q ∷ ys) ys
    two true q h = ap (λ zs. q ∷ zs) h
    two false q h = h

    one : (b : Bool) (n : RoomQuote → Bool) (q : RoomQuote) (xs ys : List RoomQuote) → xs ≡ filter n ys → cond (b && n q) (q ∷ xs) xs ≡ filter n (cond b (q ∷ ys) ys)
    one true n q xs ys h = two (n q) q h
    one false n q xs ys h = h

pub named_taken : (facts : List Fact) (maker t : ℕ) (named : Option (List ℕ)) → taken_of facts maker t named facts ≡ named_quotes facts maker t named
named_taken facts maker t None = all-named (λ q. q.maker == maker && is_live facts t q) (quotes facts)
named_taken facts maker t (Some id) = both-named (λ q. q.maker == maker && is_live facts t q) (λ q. bytes_eq q.id id) (quotes facts)
