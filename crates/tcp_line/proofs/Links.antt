-- What a connection has promised after one write and another, and what is to come once a part of what was read ahead is
-- given.
use Rattle.std.proofs.Common.{◌≡◌, ℕ, Bool, true, false, cond, List, [], ◌++◌, sym, ap, ◌∙◌, append_assoc, append-nil, Option, None, Some, Result, Ok, Err, MatchResult}
use Rattle.std.specs.Io.KnownBytes.{Appends, Consumes, append_known, prepend_known}
use Rattle.std.proofs.KnownBytes.{Appends-trans}
use Rattle.gateway.specs.declared.line.LineFault.{LineFault}
use Rattle.tcp_line.specs.Link.{Link, TookPart, promised, due}

-- a first part of what waited is a first part of that and more
pub part_of_more : (old new : Option (List ℕ)) (waiting bytes : List ℕ) → TookPart old new waiting → TookPart old new (waiting ++ bytes)
part_of_more old new waiting bytes (part, park, split, appended) = (part, park ++ bytes, ap (λ l. l ++ bytes) split ∙ append_assoc part park bytes, appended)

passed : (a b c : Option (List ℕ)) (waiting bytes : List ℕ) → Appends a b waiting → Appends b c bytes → Appends (append_known a waiting) (append_known c []) bytes
passed None b c waiting bytes first next = tt
passed (Some x) None c waiting bytes first next = absurd first
passed (Some x) (Some y) None waiting bytes first next = absurd next
passed (Some x) (Some y) (Some z) waiting bytes first next = append-nil z ∙ next ∙ ap (λ l. l ++ bytes) first

part_after : (a b c : Option (List ℕ)) (waiting bytes : List ℕ) → Appends a b waiting → TookPart b c bytes → TookPart a c (waiting ++ bytes)
part_after a b c waiting bytes first (part, park, split, appended) =
    (waiting ++ part, park, ap (λ l. waiting ++ l) split ∙ sym (append_assoc waiting part park), Appends-trans a b c waiting part first appended)

-- all that waited was given, and then these
pub given_after : (old mid new : Link) (bytes : List ℕ) (r : Result Unit LineFault) → Appends old.taken mid.taken old.waiting → mid.waiting ≡ [] → new.waiting ≡ mid.waiting
    → MatchResult r (λ _. Appends mid.taken new.taken bytes) (λ _. TookPart mid.taken new.taken bytes)
    → MatchResult r (λ _. Appends (promised old) (promised new) bytes) (λ _. TookPart old.taken new.taken (due old bytes))
given_after old mid new bytes (Ok x) first none same next = rw (same, none) (passed old.taken mid.taken new.taken old.waiting bytes first next)
given_after old mid new bytes (Err e) first none same next = part_after old.taken mid.taken new.taken old.waiting bytes first next

-- what leaves the front of what was read ahead leaves what is to come; where that is unknown it stays so
pub given_ahead : (unknown : Bool) (behind : Option (List ℕ)) (old new bytes : List ℕ) → old ≡ bytes ++ new
    → Consumes (cond unknown None (prepend_known old behind)) (cond unknown None (prepend_known new behind)) bytes
given_ahead true behind old new bytes split = tt
given_ahead false None old new bytes split = tt
given_ahead false (Some xs) old new bytes split = ap (λ l. l ++ xs) split ∙ append_assoc bytes new xs
