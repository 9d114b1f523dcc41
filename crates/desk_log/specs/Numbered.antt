-- The frames of a log from the one to the other, in the order of the log, by era and number.
use Rattle.std.specs.Prelude.{ℕ, ◌+◌, ◌==◌, ◌||◌, List, [], ◌∷◌, ◌++◌, Bool, true, false, Option, Some, None, max, slice_range, if◌then◌else◌}
use Rattle.desk_log.specs.declared.frames.Span.{Span}
use Rattle.desk_log.specs.declared.numbered.Place.{Place}
use Rattle.desk_log.specs.declared.numbered.Numbered.{Numbered}
use Rattle.desk_log.specs.Bodies.{begins_era, is_between, is_session, next_in, number_in, text_of}

abbrev pub body_at : List ℕ → Span → List ℕ
body_at log s = slice_range log s.start s.end

-- the number of a frame from the one to the other
abbrev pub number_between : (from to body : List ℕ) → Option ℕ
number_between from to body = if is_between from to body then number_in body else None

-- The latest era, and the greatest number in it so far. A Logon may begin another, and so does the first frame.
abbrev pub begins : Place → ℕ → List ℕ → Bool
begins p n body = p.era == 0 || begins_era p.number n body

abbrev pub latest_with : Place → ℕ → List ℕ → Place
latest_with p n body = if begins p n body then (record { era = p.era + 1; number = n }) else (record { era = p.era; number = max p.number n })

abbrev pub latest_behind : Place → Option ℕ → List ℕ → Place
latest_behind p None body = p
latest_behind p (Some n) body = latest_with p n body

-- the number behind those that a frame has: its own, and those that a gap fill passes
abbrev pub behind_in : ℕ → List ℕ → ℕ
behind_in n body = max (next_in n body) (n + 1)

abbrev pub numbered_as : ℕ → ℕ → List ℕ → Span → Numbered
numbered_as era n body s = record { place = record { era = era; number = n }; next = behind_in n body; session = is_session body; body = s }

abbrev pub numbered_if : Place → Option ℕ → List ℕ → Span → List Numbered
numbered_if p None body s = []
numbered_if p (Some n) body s = numbered_as (latest_with p n body).era n body s ∷ []

abbrev pub numbered_from : (from to log : List ℕ) → Place → List Span → List Numbered
numbered_from from to log p [] = []
numbered_from from to log p (s ∷ ss) =
    numbered_if p (number_between from to (body_at log s)) (body_at log s) s
    ++ numbered_from from to log (latest_behind p (number_between from to (body_at log s)) (body_at log s)) ss

abbrev pub before_all : Place
before_all = record { era = 0; number = 0 }

-- the frames with these bodies, from the one to the other
abbrev pub numbered_in : (from to log : List ℕ) → List Span → List Numbered
numbered_in from to log ss = numbered_from from to log before_all ss

-- an application message: its place, and where its body stands
abbrev pub Logged : Type 0
Logged = Place × Span

abbrev pub logged_if : Bool → Numbered → List Logged
logged_if true f = []
logged_if false f = (f.place, f.body) ∷ []

-- the application messages among them
abbrev pub logged_in : List Numbered → List Logged
logged_in [] = []
logged_in (f ∷ fs) = logged_if f.session f ++ logged_in fs

-- the application text of a message
abbrev pub text_at : List ℕ → Span → List ℕ
text_at log s = text_of (body_at log s)

abbrev pub texts_in : List ℕ → List Logged → List (List ℕ)
texts_in log [] = []
texts_in log (l ∷ ls) = text_at log l.1 ∷ texts_in log ls
