-- The frames of a log (FIXT 1.1, standard header and trailer), and what begins as a frame and is none.
use Rattle.std.specs.Prelude.{ℕ, zero, suc, ◌+◌, ◌-◌, ◌%◌, ◌≤◌, ◌==◌, ◌&&◌, ◌||◌, ◌^◌, not, min, Bool, nat_le, List, [], ◌∷◌, ◌++◌, length, take, drop, map, sum, slice_index, Option, Some, None, Result, Ok, Err, if◌then◌else◌, codes}
use Rattle.std.specs.List.{list_any}
use Rattle.fix_fields.specs.Cut.{before}
use Rattle.fix_fields.specs.Forms.{integer_in}
use Rattle.fix_fields.specs.declared.value.ValueFault.{ValueFault}
use Rattle.fix_frame.specs.Frame.{trailer}
use Rattle.frame_explanation.specs.declared.frames.Look.{Look}
use Rattle.frame_explanation.specs.declared.frames.Look.TheVariants.{Frame, Broken, Nothing}
use Rattle.frame_explanation.specs.declared.frames.Found.{Found}
use Rattle.fix_pieces.specs.Pieces.{begins}

-- `8=FIXT.1.1|9=`, with which every frame begins
abbrev pub opening : List ℕ
opening = codes "8=FIXT.1.1" ++ 1 ∷ codes "9="

-- the digits of BodyLength (9), in what begins with `8=FIXT.1.1|9=`
abbrev pub length_digits : List ℕ → List ℕ
length_digits s = before 1 (drop 13 s)

abbrev pub number_of : Result ℕ ValueFault → Option ℕ
number_of (Ok n) = Some n
number_of (Err fault) = None

-- BodyLength: one to six digits, the length of a body
abbrev pub body_length : List ℕ → Option ℕ
body_length digits = if nat_le (length digits) 6 then number_of (integer_in 4 65_536 digits) else None

-- between these places there are bytes that begin with `35=` and end with SOH, and behind them a CheckSum that is the
-- sum of all bytes before it, modulo 256
abbrev pub is_framed : List ℕ → ℕ → ℕ → Bool
is_framed s start end =
    nat_le end (length s) && (begins (codes "35=") (drop start s) && (slice_index s (end - 1) == 1 && begins (trailer (sum (take end s) % 256)) (drop end s)))

-- what is broken ends before the end of its line, and before what next begins as a frame
abbrev pub ends_run : List ℕ → Bool
ends_run s = begins (codes "\n") s || begins opening s

abbrev pub run_length : List ℕ → ℕ
run_length [] = 0
run_length (c ∷ cs) = if ends_run (c ∷ cs) then 0 else suc (run_length cs)

abbrev pub broken : List ℕ → Look
broken s = Broken (13 + run_length (drop 13 s))

abbrev pub look_behind : List ℕ → ℕ → Option ℕ → Look
look_behind s start None = broken s
look_behind s start (Some n) = if is_framed s start (start + n) then Frame start (start + n) else broken s

-- what begins some bytes: a frame, with the place of its body; what begins as a frame and is none; or neither
abbrev pub look : List ℕ → Look
look s = if begins opening s then look_behind s (length (length_digits s) + 14) (body_length (length_digits s)) else Nothing

-- a frame that was found stands within the bytes
abbrev pub IsWithin : List ℕ → Look → Type 0
IsWithin s (Frame start end) = (start ≤ end) × (end + 7 ≤ length s)
IsWithin s (Broken count) = (1 ≤ count) × (count ≤ length s)
IsWithin s Nothing = Unit {0}

-- what was found, and how many bytes behind the first belong to it: a frame ends with seven bytes of CheckSum
abbrev pub founds : ℕ → Look → List Found
founds at (Frame start end) = record { at = at; look = Frame start end } ∷ []
founds at (Broken count) = record { at = at; look = Broken count } ∷ []
founds at Nothing = []

abbrev pub inside : Look → ℕ
inside (Frame start end) = end + 6
inside (Broken count) = count - 1
inside Nothing = 0

-- What stands in a log, from a place on: its bytes are passed, and so is each byte at which nothing begins. The first
-- `left` bytes belong to what was found before.
abbrev pub found_from : (at left : ℕ) → List ℕ → List Found
found_from at left [] = []
found_from at (suc n) (c ∷ cs) = found_from (suc at) n cs
found_from at zero (c ∷ cs) = founds at (look (c ∷ cs)) ++ found_from (suc at) (inside (look (c ∷ cs))) cs

abbrev pub found_in : List ℕ → List Found
found_in log = found_from 0 0 log

-- Where a log has no SOH, each | stands for one.
abbrev pub soh_of : Bool → ℕ → ℕ
soh_of bars b = if bars && b == 124 then 1 else b

abbrev pub with_soh : Bool → List ℕ → List ℕ
with_soh bars log = map (soh_of bars) log

abbrev pub separated : List ℕ → List ℕ
separated log = with_soh (not (list_any (λ b. b == 1) log)) log

-- a sum of places, which are below 2^64
abbrev pub plus : ℕ → ℕ → ℕ
plus a b = min (a + b) (2 ^ 64 - 1)

-- the bytes of what was found
abbrev pub extent : Look → ℕ
extent (Frame start end) = plus end 7
extent (Broken count) = count
extent Nothing = 0

-- how many of what was found are frames
abbrev pub count_after : ℕ → Look → ℕ
count_after count (Frame start end) = plus count 1
count_after count (Broken bytes) = count
count_after count Nothing = count

abbrev pub frames_from : ℕ → List Found → ℕ
frames_from count [] = count
frames_from count (f ∷ found) = frames_from (count_after count f.look) found

abbrev pub frames_in : List Found → ℕ
frames_in found = frames_from 0 found

abbrev pub bytes_from : ℕ → List Found → ℕ
bytes_from count [] = count
bytes_from count (f ∷ found) = bytes_from (plus count (extent f.look)) found

abbrev pub bytes_found : List Found → ℕ
bytes_found found = bytes_from 0 found
