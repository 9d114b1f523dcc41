use Rattle.std.specs.Prelude.{◌≡◌, ℕ, Bool, true, false, ◌==◌, List, [], ◌∷◌, length, Result, Ok, Err}
use Rattle.std.specs.List.{list_all}
use Rattle.instruments.specs.declared.fault.DelayFault.{DelayFault}
use Rattle.instruments.specs.declared.fault.DelayFault.TheVariants.{Count, Range, NoMemory}
use Rattle.instruments.specs.declared.instruments.Instrument.{Instrument}
use Rattle.instruments.specs.Rows.{is_delay}

-- Other delays for the instruments of a file, in its order (17 CFR 37.9(b)(2)).

-- the same instrument with this delay
abbrev pub with_delay : Instrument → ℕ → Instrument
with_delay x ms = record { symbol = x.symbol; tick = x.tick; least = x.least; request_life = x.request_life; delay = ms }

-- the instruments with these delays, one for each
abbrev pub with_delays : List Instrument → List ℕ → List Instrument
with_delays [] ds = []
with_delays (x ∷ xs) [] = []
with_delays (x ∷ xs) (d ∷ ds) = with_delay x d ∷ with_delays xs ds

abbrev pub are_delays : List ℕ → Bool
are_delays ds = list_all is_delay ds

-- the file with these delays: the first fault, else its rows with them
abbrev pub delayed : List Instrument → List ℕ → Result (List Instrument) DelayFault
delayed xs ds = elim (length ds == length xs) [ false ↦ Err Count | true ↦ elim (are_delays ds) [ false ↦ Err Range | true ↦ Ok (with_delays xs ds) ] ]

-- the result is this fault; `NoMemory` says nothing of the delays
abbrev pub RefusesDelays : Result (List Instrument) DelayFault → DelayFault → Type 0
RefusesDelays read Count = read ≡ Err Count
RefusesDelays read Range = read ≡ Err Range
RefusesDelays read NoMemory = Unit {0}
