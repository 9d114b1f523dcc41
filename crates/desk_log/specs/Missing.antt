-- The numbers that no frame of a log has, from the one to the other, in an era.
use Rattle.std.specs.Prelude.{◌≡◌, ◌≤◌, ◌<◌, ◌+◌, ◌==◌, ◌&&◌, not, ◌||◌, ℕ, zero, suc, Bool, true, false, nat_le, nat_lt, List, [], ◌∷◌, ◌++◌, length, Option, Some, None, if◌then◌else◌}
use Rattle.std.specs.List.{list_any}
use Rattle.desk_log.specs.declared.missing.Missing.{Missing}
use Rattle.desk_log.specs.declared.numbered.Numbered.{Numbered}
use Rattle.desk_log.specs.declared.numbered.Place.{Place}
use Rattle.desk_log.specs.Numbered.{Logged}

-- a frame has its own number, and a gap fill those that it passes too
abbrev pub has : (era n : ℕ) → Numbered → Bool
has era n f = f.place.era == era && (nat_le f.place.number n && nat_lt n f.next)

-- The number behind those of a frame, if it has this one; and so on, from frame to frame.
abbrev pub led_on : (era n : ℕ) → Numbered → ℕ
led_on era n f = if has era n f then f.next else n

abbrev pub due_behind : (era n : ℕ) → List Numbered → ℕ
due_behind era n [] = n
due_behind era n (f ∷ fs) = due_behind era (led_on era n f) fs

-- the first number, from this one on, that no frame has: found where another pass through the frames leads nowhere
abbrev pub first_missing : (era : ℕ) → List Numbered → (times n : ℕ) → Option ℕ
first_missing era fs zero n = None
first_missing era fs (suc k) n = if due_behind era n fs == n then Some n else first_missing era fs k (due_behind era n fs)

-- the least number above this one that is a frame's own
abbrev pub lesser : Option ℕ → ℕ → Option ℕ
lesser None n = Some n
lesser (Some m) n = if nat_lt n m then Some n else Some m

abbrev pub is_above : (era n : ℕ) → Numbered → Bool
is_above era n f = f.place.era == era && nat_lt n f.place.number

abbrev pub nearer : (era n : ℕ) → Option ℕ → Numbered → Option ℕ
nearer era n found f = if is_above era n f then lesser found f.place.number else found

abbrev pub nearest : (era n : ℕ) → Option ℕ → List Numbered → Option ℕ
nearest era n found [] = found
nearest era n found (f ∷ fs) = nearest era n (nearer era n found f) fs

-- the numbers from the first that is missing up to the next that is there; none where the log does not go on
abbrev pub missing_to : (era first : ℕ) → Option ℕ → Option Missing
missing_to era first None = None
missing_to era first (Some next) = Some (record { era = era; first = first; next = next })

abbrev pub missing_on : (era : ℕ) → List Numbered → Option ℕ → Option Missing
missing_on era fs None = None
missing_on era fs (Some first) = missing_to era first (nearest era first None fs)

abbrev pub missing_from : List Numbered → Place → Option Missing
missing_from fs p = missing_on p.era fs (first_missing p.era fs (length fs + 1) p.number)

-- Between two messages of a log: from the one on, or from 1 in the first era; up to the other, if there is one.

abbrev pub place_from : Option Logged → Place
place_from None = record { era = 1; number = 1 }
place_from (Some l) = l.0

abbrev pub is_before : Missing → Option Logged → Bool
is_before m None = true
is_before m (Some l) = not (m.era == l.0.era) || nat_le m.next l.0.number

abbrev pub if_before : Option Missing → Option Logged → Option Missing
if_before None later = None
if_before (Some m) later = if is_before m later then Some m else None

-- from a place on in its era, one after another: there are no more of them than frames
abbrev pub with_rest : Option Missing → (Place → List Missing) → List Missing
with_rest None rest = []
with_rest (Some m) rest = m ∷ rest (record { era = m.era; number = m.next })

abbrev pub gaps_in : List Numbered → (later : Option Logged) → (times : ℕ) → Place → List Missing
gaps_in fs later zero p = []
gaps_in fs later (suc k) p = with_rest (if_before (missing_from fs p) later) (gaps_in fs later k)

abbrev pub gaps_from : List Numbered → (later : Option Logged) → Place → List Missing
gaps_from fs later p = gaps_in fs later (length fs + 1) p

-- in the era of the earlier message, and from 1 on in that of the later one, if it is another
abbrev pub is_era : ℕ → Option Logged → Bool
is_era era None = true
is_era era (Some l) = era == l.0.era

abbrev pub first_of : Option Logged → Place
first_of None = record { era = 0; number = 1 }
first_of (Some l) = record { era = l.0.era; number = 1 }

abbrev pub gaps_between : List Numbered → (earlier later : Option Logged) → List Missing
gaps_between fs earlier later =
    if is_era (place_from earlier).era later then gaps_from fs later (place_from earlier)
    else (gaps_from fs later (place_from earlier) ++ gaps_from fs later (first_of later))

-- Some frame of the era has this number.
abbrev pub is_there : (era n : ℕ) → List Numbered → Bool
is_there era n fs = list_any (has era n) fs

-- These numbers are missing: no frame has one of them. From the place on, frames have those before them; and a frame
-- has the next as its own.
pub record AreMissing (fs : List Numbered) (from : Place) (m : Missing) : Type 0 where
  pub within : m.era ≡ from.era
  pub before : (n : ℕ) → from.number ≤ n → n < m.first → is_there m.era n fs ≡ true
  pub none : (n : ℕ) → m.first ≤ n → n < m.next → is_there m.era n fs ≡ false
  pub goes_on : list_any (λ f. f.place.era == m.era && f.place.number == m.next) fs ≡ true

abbrev pub MissingAreMissing : Type 0
MissingAreMissing = (fs : List Numbered) (from : Place) (m : Missing) → missing_from fs from ≡ Some m → AreMissing fs from m

-- So of one after another: each from where the one before it leads.
abbrev pub AreGaps : List Numbered → Place → List Missing → Type 0
AreGaps fs p [] = Unit {0}
AreGaps fs p (m ∷ ms) = AreMissing fs p m × AreGaps fs (record { era = m.era; number = m.next }) ms

-- Between two messages: from the earlier one on, and from 1 on in the era of the later one, if it is another.
pub record AreGapsBetween (fs : List Numbered) (earlier later : Option Logged) (gaps : List Missing) : Type 0 where
  pub one : List Missing
  pub two : List Missing
  pub both : gaps ≡ one ++ two
  pub first : AreGaps fs (place_from earlier) one
  pub second : AreGaps fs (first_of later) two
  pub same_era : is_era (place_from earlier).era later ≡ true → two ≡ []

abbrev pub GapsAreMissing : Type 0
GapsAreMissing = (fs : List Numbered) (earlier later : Option Logged) → AreGapsBetween fs earlier later (gaps_between fs earlier later)
