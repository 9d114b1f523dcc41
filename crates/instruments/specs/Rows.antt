use Rattle.std.specs.Prelude.{ℕ, ◌^◌, Bool, ◌&&◌, nat_le, List, length, bytes_eq}
use Rattle.std.specs.List.{list_all}
use Rattle.config_format.specs.Rows.{are_distinct_by}
use Rattle.instruments.specs.declared.instruments.Instrument.{Instrument}
use Rattle.instruments.specs.Symbols.{is_symbol}

-- the most instruments of a file
abbrev pub most_instruments : ℕ
most_instruments = 256

-- a tick of 1 to 10^12 millionths
abbrev pub is_tick : ℕ → Bool
is_tick n = nat_le 1 n && nat_le n (10 ^ 12)

-- a least quantity of 1 to 10^15
abbrev pub is_least : ℕ → Bool
is_least n = nat_le 1 n && nat_le n (10 ^ 15)

-- a request for quotes that stays open for 1 to 86,400 seconds
abbrev pub is_request_life : ℕ → Bool
is_request_life n = nat_le 1 n && nat_le n 86400

-- a delay of a second to an hour, in milliseconds
abbrev pub is_delay : ℕ → Bool
is_delay n = nat_le 1000 n && nat_le n 3600000

abbrev pub is_instrument : Instrument → Bool
is_instrument x = is_symbol x.symbol && (is_tick x.tick && (is_least x.least && (is_request_life x.request_life && is_delay x.delay)))

abbrev pub is_same_symbol : Instrument → Instrument → Bool
is_same_symbol x y = bytes_eq x.symbol y.symbol

-- no symbol occurs twice
abbrev pub are_distinct : List Instrument → Bool
are_distinct xs = are_distinct_by is_same_symbol xs

-- the rules of an instrument file: 1 to 256 instruments with distinct symbols
abbrev pub is_instrument_file : List Instrument → Bool
is_instrument_file xs = nat_le 1 (length xs) && (nat_le (length xs) most_instruments && (list_all is_instrument xs && are_distinct xs))
