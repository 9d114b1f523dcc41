use Rattle.std.specs.Prelude.{ℕ, ◌*◌, ◌%◌, Bool, not, ◌==◌, nat_lt, nat_abs, List, [], length, slice_get, option_map, unwrap_or, ℤ, bytes_eq}
use Rattle.std.specs.List.{position_or_len}
use Rattle.instruments.specs.declared.instruments.Instrument.{Instrument}

-- an instrument by its symbol, or a place past the end where there is none
abbrev pub instrument_of : List Instrument → List ℕ → ℕ
instrument_of file symbol = position_or_len (λ x. bytes_eq symbol x.symbol) file

abbrev pub is_unknown_instrument : List Instrument → List ℕ → Bool
is_unknown_instrument file symbol = not (nat_lt (instrument_of file symbol) (length file))

-- the values of an instrument in the file; those of a place past the end are never used
abbrev pub symbol_of : List Instrument → ℕ → List ℕ
symbol_of file x = unwrap_or (option_map (λ i. i.symbol) (slice_get file x)) []

abbrev pub tick_of : List Instrument → ℕ → ℕ
tick_of file x = unwrap_or (option_map (λ i. i.tick) (slice_get file x)) 1

abbrev pub least_of : List Instrument → ℕ → ℕ
least_of file x = unwrap_or (option_map (λ i. i.least) (slice_get file x)) 1

-- in milliseconds
abbrev pub request_life_of : List Instrument → ℕ → ℕ
request_life_of file x = 1000 * unwrap_or (option_map (λ i. i.request_life) (slice_get file x)) 0

-- the delay between the entries of linked orders, in milliseconds (17 CFR 37.9(b)(1)), which the venue may adjust for a
-- swap (17 CFR 37.9(b)(2))
abbrev pub delay_of : List Instrument → ℕ → ℕ
delay_of file x = unwrap_or (option_map (λ i. i.delay) (slice_get file x)) 0

-- a price that is not a multiple of the tick
abbrev pub is_off_tick : List Instrument → ℕ → ℤ → Bool
is_off_tick file x price = not (nat_abs price % tick_of file x == 0)
