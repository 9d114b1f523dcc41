use Rattle.std.proofs.Common.{◌≡◌, refl, sym, ap, ◌∙◌, ℕ, pos, nat_abs, int_lt, ◌^◌, Bool, true, false, not, ◌&&◌, nat_lt, nat_le, List, [], ◌∷◌, map, length, codes, Option, Some, None, is_none, Result, IsUtf8, arith}
use Rattle.std.specs.List.{list_any, list_all}
use Rattle.std.proofs.lemmas.Bool.{true≢false, and_parts, or_parts, not-false}
use Rattle.std.proofs.lemmas.Bool.Decides.{nat_tests}
use Rattle.std.proofs.lemmas.List.{length-map}
use Rattle.toml.specs.Data.{Data, Members, string, integer, float, boolean, datetime, array, table, as_table, get}
use Rattle.toml.specs.Parse.{parse_document}
use Rattle.config_format.specs.Document.{is_no_list, is_no_name, is_without_entry, lacks, text_at}
use Rattle.config_format.proofs.DocumentLemmas.{key-there, name-there, some-entries}
use Rattle.instruments.specs.declared.fault.FileFault.{FileFault}
use Rattle.instruments.specs.declared.fault.FileFault.TheVariants.{NotToml, Missing, Twice, TooMany, BadValue, NoMemory}
use Rattle.instruments.specs.declared.instruments.Instrument.{Instrument}
use Rattle.instruments.specs.Symbols.{is_symbol}
use Rattle.instruments.specs.Rows.{is_instrument, is_least, is_request_life, is_tick, most_instruments}
use Rattle.instruments.specs.Numbers.{is_no_number, number_at, number_in, stated_or}
use Rattle.instruments.specs.Reading.{IsFaultOf, Refuses, has_bad_value, has_too_many, instruments, is_bad_instrument, is_missing, read_of, row_of, rows, rows_of, usual_delay}

-- A document without the first faults has the rows of instruments.

both : (a b : Bool) → a ≡ true → b ≡ true → (a && b) ≡ true
both true b h k = k
both false b h k = absurd (true≢false (sym h))

-- a stated value that is not a bad number is a number
number_there : (low high : ℕ) (o : Option Data) → is_none o ≡ false → is_no_number low high o ≡ false → (nat_le low (number_in o) && nat_le (number_in o) high) ≡ true
number_there low high None h k = absurd (true≢false h)
number_there low high (Some (integer z)) h k = not-false (nat_le low (nat_abs z) && nat_le (nat_abs z) high) (or_parts (int_lt z (pos 0)) (not (nat_le low (nat_abs z) && nat_le (nat_abs z) high)) k).1
number_there low high (Some (string s)) h k = absurd (true≢false k)
number_there low high (Some (float x)) h k = absurd (true≢false k)
number_there low high (Some (boolean b)) h k = absurd (true≢false k)
number_there low high (Some (datetime d)) h k = absurd (true≢false k)
number_there low high (Some (array ds)) h k = absurd (true≢false k)
number_there low high (Some (table ms)) h k = absurd (true≢false k)

-- likewise a number that may be absent
number_left_out : (low high usual : ℕ) (o : Option Data) → (nat_le low usual && nat_le usual high) ≡ true → is_no_number low high o ≡ false → (nat_le low (stated_or usual o) && nat_le (stated_or usual o) high) ≡ true
number_left_out low high usual None u k = u
number_left_out low high usual (Some (integer z)) u k = not-false (nat_le low (nat_abs z) && nat_le (nat_abs z) high) (or_parts (int_lt z (pos 0)) (not (nat_le low (nat_abs z) && nat_le (nat_abs z) high)) k).1
number_left_out low high usual (Some (string s)) u k = absurd (true≢false k)
number_left_out low high usual (Some (float x)) u k = absurd (true≢false k)
number_left_out low high usual (Some (boolean b)) u k = absurd (true≢false k)
number_left_out low high usual (Some (datetime d)) u k = absurd (true≢false k)
number_left_out low high usual (Some (array ds)) u k = absurd (true≢false k)
number_left_out low high usual (Some (table ms)) u k = absurd (true≢false k)

-- no entry lacks a key
record Whole (ds : List Data) : Type 0 where
  symbol : list_any (lacks (codes "symbol")) ds ≡ false
  tick : list_any (lacks (codes "tick")) ds ≡ false
  least : list_any (lacks (codes "least")) ds ≡ false
  life : list_any (lacks (codes "rfq_life")) ds ≡ false

good_row : (d : Data) → lacks (codes "symbol") d ≡ false → lacks (codes "tick") d ≡ false → lacks (codes "least") d ≡ false → lacks (codes "rfq_life") d ≡ false → is_bad_instrument d ≡ false → is_instrument (row_of d) ≡ true
good_row d s t l f bad =
    let b1 = or_parts (is_none (as_table d)) _ bad in
    let b2 = or_parts (is_no_name (get (codes "symbol") d)) _ b1.1 in
    let b3 = or_parts (is_no_number 1 (10 ^ 12) (get (codes "tick") d)) _ b2.1 in
    let b4 = or_parts (is_no_number 1 (10 ^ 15) (get (codes "least") d)) _ b3.1 in
    let b5 = or_parts (is_no_number 1 86400 (get (codes "rfq_life") d)) (is_no_number 1000 3600000 (get (codes "delay_ms") d)) b4.1 in
    both (is_symbol (text_at (codes "symbol") d)) _ (name-there (get (codes "symbol") d) (key-there (as_table d) (get (codes "symbol") d) b1.0 s) b2.0)
    (both (is_tick (number_at (codes "tick") d)) _ (number_there 1 (10 ^ 12) (get (codes "tick") d) (key-there (as_table d) (get (codes "tick") d) b1.0 t) b3.0)
    (both (is_least (number_at (codes "least") d)) _ (number_there 1 (10 ^ 15) (get (codes "least") d) (key-there (as_table d) (get (codes "least") d) b1.0 l) b4.0)
    (both (is_request_life (number_at (codes "rfq_life") d)) _ (number_there 1 86400 (get (codes "rfq_life") d) (key-there (as_table d) (get (codes "rfq_life") d) b1.0 f) b5.0)
    (number_left_out 1000 3600000 usual_delay (get (codes "delay_ms") d) refl b5.1))))

good_rows : (ds : List Data) → Whole ds → list_any is_bad_instrument ds ≡ false → list_all is_instrument (map row_of ds) ≡ true
good_rows [] w h = refl
good_rows (d ∷ ds) w h =
    let s = or_parts (lacks (codes "symbol") d) (list_any (lacks (codes "symbol")) ds) w.symbol in
    let t = or_parts (lacks (codes "tick") d) (list_any (lacks (codes "tick")) ds) w.tick in
    let l = or_parts (lacks (codes "least") d) (list_any (lacks (codes "least")) ds) w.least in
    let f = or_parts (lacks (codes "rfq_life") d) (list_any (lacks (codes "rfq_life")) ds) w.life in
    let b = or_parts (is_bad_instrument d) (list_any is_bad_instrument ds) h in
    both (is_instrument (row_of d)) (list_all is_instrument (map row_of ds)) (good_row d s.0 t.0 l.0 f.0 b.0) (good_rows ds (record { symbol = s.1; tick = t.1; least = l.1; life = f.1 }) b.1)

symbols_of : (ds : List Data) → list_all is_instrument (map row_of ds) ≡ true → list_all (λ e. is_symbol (text_at (codes "symbol") e)) ds ≡ true
symbols_of [] h = refl
symbols_of (d ∷ ds) h =
    let here = and_parts (is_instrument (row_of d)) (list_all is_instrument (map row_of ds)) h in
    both (is_symbol (text_at (codes "symbol") d)) (list_all (λ e. is_symbol (text_at (codes "symbol") e)) ds) (and_parts (is_symbol (text_at (codes "symbol") d)) _ here.0).0 (symbols_of ds here.1)

-- the facts of a document without the first three faults
pub record Sound (file : Data) : Type 0 where
  pub some : nat_le 1 (length (rows file)) ≡ true
  pub few : nat_le (length (rows file)) most_instruments ≡ true
  pub all : list_all is_instrument (rows file) ≡ true
  pub symbols : list_all (λ e. is_symbol (text_at (codes "symbol") e)) (instruments file) ≡ true
  pub read : read_of file ≡ rows_of (rows file)

passed : (b : Bool) (x y : Result (List Instrument) FileFault) → b ≡ false → elim b [ true ↦ x | false ↦ y ] ≡ y
passed true x y h = absurd (true≢false h)
passed false x y h = refl

pub sound : (file : Data) → is_missing file ≡ false → has_bad_value file ≡ false → has_too_many file ≡ false → Sound file
sound file missing bad many =
    let m1 = or_parts (is_none (get (codes "instrument") file)) _ missing in
    let m2 = or_parts (is_without_entry (get (codes "instrument") file)) _ m1.1 in
    let m3 = or_parts (list_any (lacks (codes "symbol")) (instruments file)) _ m2.1 in
    let m4 = or_parts (list_any (lacks (codes "tick")) (instruments file)) _ m3.1 in
    let m5 = or_parts (list_any (lacks (codes "least")) (instruments file)) (list_any (lacks (codes "rfq_life")) (instruments file)) m4.1 in
    let b1 = or_parts (is_no_list (get (codes "instrument") file)) (list_any is_bad_instrument (instruments file)) bad in
    let good = good_rows (instruments file) (record { symbol = m3.0; tick = m4.0; least = m5.0; life = m5.1 }) b1.1 in
    record {
      some = ap (nat_le 1) (length-map (instruments file) row_of) ∙ some-entries (get (codes "instrument") file) m1.0 m2.0 b1.0;
      few = ap (λ n. nat_le n most_instruments) (length-map (instruments file) row_of) ∙ few_of (length (instruments file)) many;
      all = good;
      symbols = symbols_of (instruments file) good;
      read = passed (is_missing file) _ _ missing ∙ (passed (has_bad_value file) _ _ bad ∙ passed (has_too_many file) _ _ many);
    }
  where
    few_of : (n : ℕ) → nat_lt most_instruments n ≡ false → nat_le n most_instruments ≡ true
    few_of n h = grind (arith, nat_tests)

pub rows-read : (file : Data) (xs : List Instrument) → Sound file → xs ≡ rows file → rows_of xs ≡ read_of file
rows-read file xs s e = ap rows_of e ∙ sym s.read

-- the reading of a document is that of its text

pub Reads-err : (text : List ℕ) (document : Members) (d : Data) (fault : FileFault) → d ≡ table document → IsUtf8 text → parse_document text ≡ Some document → Refuses (read_of d) fault → IsFaultOf text fault
Reads-err text document d NotToml same utf8 parsed h = absurd h
Reads-err text document d NoMemory same utf8 parsed h = tt
Reads-err text document d Missing same utf8 parsed h = (document, utf8, parsed, ap read_of (sym same) ∙ h)
Reads-err text document d Twice same utf8 parsed h = (document, utf8, parsed, ap read_of (sym same) ∙ h)
Reads-err text document d TooMany same utf8 parsed h = (document, utf8, parsed, ap read_of (sym same) ∙ h)
Reads-err text document d BadValue same utf8 parsed h = (document, utf8, parsed, ap read_of (sym same) ∙ h)
