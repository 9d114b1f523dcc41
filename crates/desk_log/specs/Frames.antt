-- The frames of a log (FIXT 1.1, standard header and trailer): where they stand in its bytes.
use Rattle.std.specs.Prelude.{ℕ, zero, suc, ◌+◌, ◌-◌, ◌%◌, ◌≤◌, ◌==◌, ◌&&◌, Bool, nat_le, List, [], ◌∷◌, ◌++◌, length, take, drop, map, sum, slice_index, Option, Some, None, Result, Ok, Err, if◌then◌else◌, codes}
use Rattle.std.specs.List.{count_by, list_any}
use Rattle.fix_fields.specs.Cut.{before}
use Rattle.fix_fields.specs.Forms.{integer_in}
use Rattle.fix_fields.specs.declared.value.ValueFault.{ValueFault}
use Rattle.fix_frame.specs.Frame.{trailer}
use Rattle.desk_log.specs.declared.frames.Span.{Span}
use Rattle.desk_log.specs.declared.frames.Look.{Look}
use Rattle.desk_log.specs.declared.frames.Look.TheVariants.{Frame, Broken, Nothing}
use Rattle.desk_log.specs.declared.frames.FrameFault.TheVariants.{Length, Checksum}
use Rattle.desk_log.specs.declared.frames.BrokenFrame.{BrokenFrame}
use Rattle.fix_pieces.specs.Pieces.{begins}

-- `8=FIXT.1.1|9=`, with which every frame begins
abbrev pub opening : List ℕ
opening = codes "8=FIXT.1.1" ++ 1 ∷ codes "9="

-- the digits of BodyLength (9), in what begins with `8=FIXT.1.1|9=`
abbrev pub length_digits : List ℕ → List ℕ
length_digits s = before 1 (drop 13 s)

abbrev pub number_of : Result ℕ ValueFault → Option ℕ
number_of (Ok n) = Some n
number_of (Err fault) = None

-- BodyLength: one to six digits, a body's length
abbrev pub body_length : List ℕ → Option ℕ
body_length digits = if nat_le (length digits) 6 then number_of (integer_in 4 999_999 digits) else None

-- between these places there are bytes that begin with `35=` and end with SOH
abbrev pub is_body : List ℕ → ℕ → ℕ → Bool
is_body s start end = nat_le end (length s) && (begins (codes "35=") (drop start s) && slice_index s (end - 1) == 1)

-- a CheckSum follows that is the sum of the bytes before it, modulo 256
abbrev pub is_checked : List ℕ → ℕ → Bool
is_checked s end = begins (trailer (sum (take end s) % 256)) (drop end s)

abbrev pub look_body : List ℕ → ℕ → ℕ → Look
look_body s start end =
    if is_body s start end then (if is_checked s end then Frame start end else Broken Checksum)
    else Broken Length

abbrev pub look_behind : List ℕ → ℕ → Option ℕ → Look
look_behind s start None = Broken Length
look_behind s start (Some n) = look_body s start (start + n)

-- what begins some bytes: a frame, with the place of its body; what begins as a frame and is none; or neither
abbrev pub look : List ℕ → Look
look s = if begins opening s then look_behind s (length (length_digits s) + 14) (body_length (length_digits s)) else Nothing

-- a frame that was found stands within the bytes
abbrev pub IsWithin : List ℕ → Look → Type 0
IsWithin s (Frame start end) = (start ≤ end) × (end + 7 ≤ length s)
IsWithin s (Broken fault) = Unit {0}
IsWithin s Nothing = Unit {0}

-- the body of a frame, in a log in which it begins there
abbrev pub spans : ℕ → Look → List Span
spans at (Frame start end) = record { start = at + start; end = at + end } ∷ []
spans at (Broken fault) = []
spans at Nothing = []

-- how many bytes behind the first belong to a frame, which ends with seven bytes of CheckSum
abbrev pub inside : Look → ℕ
inside (Frame start end) = end + 6
inside (Broken fault) = 0
inside Nothing = 0

-- The bodies of the frames of a log, from a place on: the bytes of a frame are passed, and so is each byte at which
-- none begins. The first `left` bytes belong to the frame before.
abbrev pub bodies_from : (at left : ℕ) → List ℕ → List Span
bodies_from at left [] = []
bodies_from at (suc n) (c ∷ cs) = bodies_from (suc at) n cs
bodies_from at zero (c ∷ cs) = spans at (look (c ∷ cs)) ++ bodies_from (suc at) (inside (look (c ∷ cs))) cs

abbrev pub bodies_in : List ℕ → List Span
bodies_in log = bodies_from 0 0 log

-- the bytes that belong to no frame
abbrev pub outside_of : Look → ℕ
outside_of (Frame start end) = 0
outside_of (Broken fault) = 1
outside_of Nothing = 1

abbrev pub outside_from : (left : ℕ) → List ℕ → ℕ
outside_from left [] = 0
outside_from (suc n) (c ∷ cs) = outside_from n cs
outside_from zero (c ∷ cs) = outside_of (look (c ∷ cs)) + outside_from (inside (look (c ∷ cs))) cs

abbrev pub outside : List ℕ → ℕ
outside log = outside_from 0 log

-- the first place at which something begins as a frame and is none, and why
abbrev pub broken_or : ℕ → Look → Option BrokenFrame → Option BrokenFrame
broken_or at (Frame start end) later = later
broken_or at (Broken fault) later = Some (record { at = at; fault = fault })
broken_or at Nothing later = later

abbrev pub broken_from : (at left : ℕ) → List ℕ → Option BrokenFrame
broken_from at left [] = None
broken_from at (suc n) (c ∷ cs) = broken_from (suc at) n cs
broken_from at zero (c ∷ cs) = broken_or at (look (c ∷ cs)) (broken_from (suc at) (inside (look (c ∷ cs))) cs)

abbrev pub first_broken : List ℕ → Option BrokenFrame
first_broken log = broken_from 0 0 log

abbrev pub either : Option BrokenFrame → Option BrokenFrame → Option BrokenFrame
either (Some b) later = Some b
either None later = later

-- the line of a place, from 1
abbrev pub line_of : ℕ → List ℕ → ℕ
line_of at log = count_by (λ b. b == 10) (take at log) + 1

-- Where a log has no SOH, each | stands for one.
abbrev pub soh_of : ℕ → ℕ
soh_of b = if b == 124 then 1 else b

abbrev pub with_soh : List ℕ → List ℕ
with_soh log = map soh_of log

abbrev pub separated : List ℕ → List ℕ
separated log = if list_any (λ b. b == 1) log then log else with_soh log
