use Rattle.std.proofs.Common.{◌≡◌, refl, sym, ap, ◌∙◌, ℕ, ◌+◌, ◌<◌, ◌≤◌, true, false, get_or, List, [], ◌∷◌, ◌++◌, ◌==◌, length, take, drop, filter, filter_map, map, is_none, nat_lt, Option, Some, None, arith}
use Rattle.std.proofs.lemmas.Bool.Decides.{nat_tests}
use Rattle.std.specs.List.{list_any}
use Rattle.std.proofs.lemmas.List.{length-map, map-append}
use Rattle.std.proofs.lemmas.List.Elements.{filter_map-append, filter-append}
use Rattle.fix_dictionary.specs.declared.messages.Party.{Party}
use Rattle.participants.specs.ParticipantFile.{ParticipantFile}
use Rattle.participants.specs.Relations.{find_participant}
use Rattle.venue_rules.specs.Requests.{has_twice}
use Rattle.rfq_room.specs.Views.{is_recipient, places_of, recipients_of}
use Rattle.rfq_room.proofs.Readings.{drop-read, take-read}

recipients_of-append : (file : ParticipantFile) (ps qs : List Party) → recipients_of file (ps ++ qs) ≡ recipients_of file ps ++ recipients_of file qs
recipients_of-append file ps qs =
    ap (λ xs. filter_map (λ r. r) (map (λ p. find_participant file p.id) xs)) (filter-append is_recipient ps qs)
    ∙ ap (filter_map (λ r. r)) (map-append (λ p. find_participant file p.id) (filter is_recipient ps) (filter is_recipient qs))
    ∙ filter_map-append (λ r. r) (map (λ p. find_participant file p.id) (filter is_recipient ps)) (map (λ p. find_participant file p.id) (filter is_recipient qs))

more : (file : ParticipantFile) (ps : List Party) (i : ℕ) (p : Party) → i < length ps → p ≡ get_or ps i p → recipients_of file (take (i + 1) ps) ≡ recipients_of file (take i ps) ++ recipients_of file (p ∷ [])
more file ps i p h e = ap (recipients_of file) (take-read ps i p h e) ∙ recipients_of-append file (take i ps) (p ∷ [])

append-none : {X : Type 0} (xs : List X) → xs ++ [] ≡ xs
append-none [] = refl
append-none (x ∷ xs) = ap (λ ys. x ∷ ys) (append-none xs)

-- a further party
pub recipient-known : (file : ParticipantFile) (ps : List Party) (i : ℕ) (p : Party) (who : ℕ) → i < length ps → p ≡ get_or ps i p → is_recipient p ≡ true → find_participant file p.id ≡ Some who → recipients_of file (take (i + 1) ps) ≡ recipients_of file (take i ps) ++ who ∷ []
recipient-known file ps i p who h e k f = more file ps i p h e ∙ rw k (rw f refl)

pub recipient-unknown : (file : ParticipantFile) (ps : List Party) (i : ℕ) (p : Party) → i < length ps → p ≡ get_or ps i p → is_recipient p ≡ true → find_participant file p.id ≡ None → recipients_of file (take (i + 1) ps) ≡ recipients_of file (take i ps)
recipient-unknown file ps i p h e k f = more file ps i p h e ∙ rw k (rw f (append-none (recipients_of file (take i ps))))

pub recipient-other : (file : ParticipantFile) (ps : List Party) (i : ℕ) (p : Party) → i < length ps → p ≡ get_or ps i p → is_recipient p ≡ false → recipients_of file (take (i + 1) ps) ≡ recipients_of file (take i ps)
recipient-other file ps i p h e k = more file ps i p h e ∙ rw k (append-none (recipients_of file (take i ps)))

-- whether an element occurs twice, one place on
pub twice-found : (rs : List ℕ) (i r : ℕ) → i < length rs → r ≡ get_or rs i r → list_any (λ q. q == r) (drop (i + 1) rs) ≡ true → has_twice (drop i rs) ≡ true
twice-found rs i r h e k = rw (drop-read rs i r h e) (rw (k, has_twice) refl)

pub twice-passed : (rs : List ℕ) (i r : ℕ) → i < length rs → r ≡ get_or rs i r → list_any (λ q. q == r) (drop (i + 1) rs) ≡ false → has_twice (drop i rs) ≡ has_twice (drop (i + 1) rs)
twice-passed rs i r h e k = rw (drop-read rs i r h e) (rw (k, has_twice) refl)

pub ruleset parties = (recipient-known, recipient-unknown, recipient-other, twice-found, twice-passed)

-- a recipient is not in the file where fewer are found than are named

found-few : (places : List (Option ℕ)) → length (filter_map (λ r. r) places) ≤ length places
found-few [] = omega arith
found-few (None ∷ places) = omega (arith, found-few places)
found-few (Some who ∷ places) = omega (arith, found-few places)

fewer : (places : List (Option ℕ)) → nat_lt (length (filter_map (λ r. r) places)) (length places) ≡ list_any is_none places
fewer [] = refl
fewer (None ∷ places) = let few = found-few places in grind (arith, nat_tests)
fewer (Some who ∷ places) = grind (arith, nat_tests, fewer places)

pub fewer_found : (file : ParticipantFile) (ps : List Party) (rs : List ℕ) → rs ≡ recipients_of file ps → nat_lt (length rs) (length (filter is_recipient ps)) ≡ list_any is_none (places_of file ps)
fewer_found file ps rs e =
    ap (λ xs. nat_lt (length xs) (length (filter is_recipient ps))) e
    ∙ ap (λ n. nat_lt (length (recipients_of file ps)) n) (sym (length-map (filter is_recipient ps) (λ p. find_participant file p.id)))
    ∙ fewer (places_of file ps)
