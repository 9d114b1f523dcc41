-- The text that compares two trails, A and B.
use Rattle.std.specs.Prelude.{◌≡◌, ℕ, ◌+◌, ◌-◌, ◌≤◌, zero, suc, min, Bool, ◌&&◌, List, [], ◌∷◌, ◌++◌, length, take, slice_index, slice_get, codes, decimal, bytes_eq, ◌==◌, if◌then◌else◌, Option, Some, None}
use Rattle.instruments.specs.declared.instruments.Instrument.{Instrument}
use Rattle.instruments.specs.Listing.{symbol_of}
use Rattle.participants.specs.ParticipantFile.{ParticipantFile}
use Rattle.venue_rules.specs.declared.trail.TrailRow.{TrailRow}
use Rattle.trail_digest.specs.declared.comparison.Side as lent
use Rattle.trail_digest.specs.declared.head.HeadForm.TheVariants.{Line}
use Rattle.trail_digest.specs.Head.{head_text}
use Rattle.trail_digest.specs.Printed.{concat, row_text}
use Rattle.trail_digest.specs.Trail.{Trail, trail_of}

-- The length of the longest beginning that two lists of rows share.
pub record AreShared (xs ys : List TrailRow) (k : ℕ) : Type 0 where
  pub within : k ≤ length xs
  pub within_other : k ≤ length ys
  pub same : take k xs ≡ take k ys
  pub longest : (n : ℕ) → n ≤ length xs → n ≤ length ys → take n xs ≡ take n ys → n ≤ k

-- a trail, and its files as they are read
pub record Side : Type 0 where
  pub trail : Trail
  pub participants : ParticipantFile
  pub instruments : List Instrument

abbrev pub side_of : lent.Side → Side
side_of s = record { trail = trail_of s.contents; participants = s.participants.now; instruments = s.instruments.now }

abbrev pub bytes_line : List ℕ → List ℕ → List ℕ → List ℕ
bytes_line what xs ys = if bytes_eq xs ys then concat (what ∷ codes ": the same\n" ∷ []) else concat (what ∷ codes ": differ\n" ∷ [])

-- the delay of the instrument at a place, where it differs; the trail numbers it from 1
abbrev pub delay_pieces : Side → Side → ℕ → List (List ℕ)
delay_pieces a b x =
    codes "delay " ∷ decimal (x + 1) ∷ codes ": " ∷ decimal (slice_index a.trail.delays x) ∷ codes " ms of " ∷ symbol_of a.instruments x
    ∷ codes " in A, " ∷ decimal (slice_index b.trail.delays x) ∷ codes " ms of " ∷ symbol_of b.instruments x ∷ codes " in B\n" ∷ []

abbrev pub delay_line : Side → Side → ℕ → List ℕ
delay_line a b x = if slice_index a.trail.delays x == slice_index b.trail.delays x then [] else concat (delay_pieces a b x)

abbrev pub delay_lines : Side → Side → ℕ → List ℕ
delay_lines a b zero = []
delay_lines a b (suc x) = delay_lines a b x ++ delay_line a b x

abbrev pub count_line : ℕ → ℕ → List ℕ
count_line m n = if m == n then [] else concat (codes "delays: " ∷ decimal m ∷ codes " in A, " ∷ decimal n ∷ codes " in B\n" ∷ [])

abbrev pub delays_text : Side → Side → List ℕ
delays_text a b =
    if bytes_eq a.trail.delays b.trail.delays then codes "delays: the same\n"
    else (count_line (length a.trail.delays) (length b.trail.delays) ++ delay_lines a b (min (length a.trail.delays) (length b.trail.delays)))

abbrev pub both_rows : Side → Side → TrailRow → TrailRow → List ℕ
both_rows a b r s = (codes "A: " ++ row_text a.participants r) ++ (codes "B: " ++ row_text b.participants s)

-- the rows at a place, one of each trail
abbrev pub rows_text : Side → Side → Option TrailRow → Option TrailRow → List ℕ
rows_text a b (Some r) (Some s) = both_rows a b r s
rows_text a b (Some r) None = []
rows_text a b None _ = []

abbrev pub same_pieces : ℕ → List (List ℕ)
same_pieces n = codes "rows: all " ∷ decimal n ∷ codes " are the same\n" ∷ []

abbrev pub begins_pieces : ℕ → List ℕ → List ℕ → ℕ → List (List ℕ)
begins_pieces n one other more =
    codes "rows: all " ∷ decimal n ∷ codes " of " ∷ one ∷ codes " are the first of " ∷ other ∷ codes ", which has " ∷ decimal more ∷ codes " more\n" ∷ []

abbrev pub differs_pieces : ℕ → List (List ℕ)
differs_pieces k = codes "rows: row " ∷ decimal (k + 1) ∷ codes " is the first that differs, no later row is compared\n" ∷ []

-- what follows the first rows, which both share, where A has no more
abbrev pub ended_text : Side → ℕ → List ℕ
ended_text b k =
    if k == length b.trail.rows then concat (same_pieces k) else concat (begins_pieces k (codes "A") (codes "B") (length b.trail.rows - k))

-- the first row that differs
abbrev pub difference_text : Side → Side → ℕ → List ℕ
difference_text a b k = concat (differs_pieces k) ++ rows_text a b (slice_get a.trail.rows k) (slice_get b.trail.rows k)

-- and where it has
abbrev pub unended_text : Side → Side → ℕ → List ℕ
unended_text a b k =
    if k == length b.trail.rows then concat (begins_pieces k (codes "B") (codes "A") (length a.trail.rows - k))
    else difference_text a b k

abbrev pub rest_text : Side → Side → ℕ → List ℕ
rest_text a b k = if k == length a.trail.rows then ended_text b k else unended_text a b k

-- the same files and delays, by which rows are answered
abbrev pub same_rules : Trail → Trail → Bool
same_rules a b = bytes_eq a.participants b.participants && bytes_eq a.instruments b.instruments && bytes_eq a.delays b.delays

abbrev pub heads_text : Trail → Trail → List ℕ
heads_text a b = (codes "A: " ++ head_text Line a) ++ (codes "B: " ++ head_text Line b)

-- their heads, files, delays and rows
abbrev pub comparison_text : Side → Side → ℕ → List ℕ
comparison_text a b k =
    heads_text a.trail b.trail
    ++ bytes_line (codes "participants") a.trail.participants b.trail.participants
    ++ bytes_line (codes "instruments") a.trail.instruments b.trail.instruments
    ++ delays_text a b
    ++ rest_text a b k

-- The text was made longer by the comparison of the trails, of which the first rows are shared, and no more.
pub record IsCompared (a b : Side) (old new : List ℕ) (shared : ℕ) : Type 0 where
  pub longest : AreShared a.trail.rows b.trail.rows shared
  pub appended : new ≡ old ++ comparison_text a b shared
