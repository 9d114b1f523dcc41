use Rattle.std.proofs.Common.{◌≡◌, refl, sym, ap, ◌∙◌, ℕ, Bool, true, false, not, ◌||◌, nat_lt, nat_le, List, [], ◌∷◌, map, length, codes, Some, is_none, bytes_eq, Result, IsUtf8, arith}
use Rattle.std.specs.List.{list_any, list_all}
use Rattle.std.proofs.lemmas.Bool.{true≢false, or_parts}
use Rattle.std.proofs.lemmas.Bool.Decides.{nat_tests}
use Rattle.toml.specs.Data.{Data, Members, table, as_table, get}
use Rattle.toml.specs.Parse.{parse_document}
use Rattle.config_format.specs.Document.{is_no_list, is_no_name, is_without_entry, lacks, text_at}
use Rattle.config_format.proofs.DocumentLemmas.{key-there, name-there, some-entries}
use Rattle.participants.specs.declared.fault.FileFault.{FileFault}
use Rattle.participants.specs.declared.fault.FileFault.TheVariants.{NotToml, Missing, Twice, UnknownName, TooMany, BadValue, NoMemory}
use Rattle.participants.specs.ParticipantFile.{ParticipantFile}
use Rattle.participants.specs.Names.{is_name}
use Rattle.participants.specs.Rows.{most_participants}
use Rattle.participants.specs.Reading.{IsFaultOf, Refuses, has_bad_value, has_too_many, is_apart, is_bad_pair, is_bad_participant, is_missing, named, named_pairs, names, participants, read_of, related_pairs, rows_of, venue_name}
use Rattle.participants.proofs.RowLemmas.{both}

-- A document without the first faults has names where they are required.

name_of_entry : (key : List ℕ) (e : Data) → is_none (as_table e) ≡ false → lacks key e ≡ false → is_no_name (get key e) ≡ false → is_name (text_at key e) ≡ true
name_of_entry key e h k n = name-there (get key e) (key-there (as_table e) (get key e) h k) n

names_of_entries : (ds : List Data) → list_any (lacks (codes "name")) ds ≡ false → list_any is_bad_participant ds ≡ false → list_all (λ e. is_name (text_at (codes "name") e)) ds ≡ true
names_of_entries [] h k = refl
names_of_entries (d ∷ ds) h k =
    let there = or_parts (lacks (codes "name") d) (list_any (lacks (codes "name")) ds) h in
    let good = or_parts (is_bad_participant d) (list_any is_bad_participant ds) k in
    let parts = or_parts (is_none (as_table d)) (is_no_name (get (codes "name") d)) good.0 in
    both (is_name (text_at (codes "name") d)) (list_all (λ e. is_name (text_at (codes "name") e)) ds) (name_of_entry (codes "name") d parts.0 there.0 parts.1) (names_of_entries ds there.1 good.1)

-- the parts of a pair that is not bad
record GoodPair (d : Data) : Type 0 where
  table : is_none (as_table d) ≡ false
  first : is_no_name (get (codes "a") d) ≡ false
  second : is_no_name (get (codes "b") d) ≡ false
  differ : bytes_eq (named d).0 (named d).1 ≡ false

good_pair : (d : Data) → is_bad_pair d ≡ false → GoodPair d
good_pair d h =
    let t = or_parts (is_none (as_table d)) (is_no_name (get (codes "a") d) || (is_no_name (get (codes "b") d) || bytes_eq (named d).0 (named d).1)) h in
    let a = or_parts (is_no_name (get (codes "a") d)) (is_no_name (get (codes "b") d) || bytes_eq (named d).0 (named d).1) t.1 in
    let b = or_parts (is_no_name (get (codes "b") d)) (bytes_eq (named d).0 (named d).1) a.1 in
    record { table = t.0; first = a.0; second = b.0; differ = b.1 }

firsts : (ds : List Data) → list_any (lacks (codes "a")) ds ≡ false → list_any is_bad_pair ds ≡ false → list_all (λ e. is_name (named e).0) ds ≡ true
firsts [] h k = refl
firsts (d ∷ ds) h k =
    let there = or_parts (lacks (codes "a") d) (list_any (lacks (codes "a")) ds) h in
    let good = or_parts (is_bad_pair d) (list_any is_bad_pair ds) k in
    let pair = good_pair d good.0 in
    both (is_name (named d).0) (list_all (λ e. is_name (named e).0) ds) (name_of_entry (codes "a") d pair.table there.0 pair.first) (firsts ds there.1 good.1)

seconds : (ds : List Data) → list_any (lacks (codes "b")) ds ≡ false → list_any is_bad_pair ds ≡ false → list_all (λ e. is_name (named e).1) ds ≡ true
seconds [] h k = refl
seconds (d ∷ ds) h k =
    let there = or_parts (lacks (codes "b") d) (list_any (lacks (codes "b")) ds) h in
    let good = or_parts (is_bad_pair d) (list_any is_bad_pair ds) k in
    let pair = good_pair d good.0 in
    both (is_name (named d).1) (list_all (λ e. is_name (named e).1) ds) (name_of_entry (codes "b") d pair.table there.0 pair.second) (seconds ds there.1 good.1)

differing : (ds : List Data) → list_any is_bad_pair ds ≡ false → list_all is_apart (map named ds) ≡ true
differing [] k = refl
differing (d ∷ ds) k =
    let good = or_parts (is_bad_pair d) (list_any is_bad_pair ds) k in
    both (is_apart (named d)) (list_all is_apart (map named ds)) (ap not (good_pair d good.0).differ) (differing ds good.1)

-- the facts of a document without the first three faults
pub record Sound (file : Data) : Type 0 where
  pub venue : is_name (venue_name file) ≡ true
  pub some : nat_le 1 (length (participants file)) ≡ true
  pub few : nat_le (length (participants file)) most_participants ≡ true
  pub all : list_all (λ e. is_name (text_at (codes "name") e)) (participants file) ≡ true
  pub first : list_all (λ e. is_name (named e).0) (related_pairs file) ≡ true
  pub second : list_all (λ e. is_name (named e).1) (related_pairs file) ≡ true
  pub apart : list_all is_apart (named_pairs file) ≡ true
  pub rows : read_of file ≡ rows_of (venue_name file) (names file) (named_pairs file)

passed : (b : Bool) (x y : Result ParticipantFile FileFault) → b ≡ false → elim b [ true ↦ x | false ↦ y ] ≡ y
passed true x y h = absurd (true≢false h)
passed false x y h = refl

pub sound : (file : Data) → is_missing file ≡ false → has_bad_value file ≡ false → has_too_many file ≡ false → Sound file
sound file missing bad many =
    let m1 = or_parts (is_none (get (codes "venue") file)) _ missing in
    let m2 = or_parts (is_none (get (codes "participant") file)) _ m1.1 in
    let m3 = or_parts (is_without_entry (get (codes "participant") file)) _ m2.1 in
    let m4 = or_parts (list_any (lacks (codes "name")) (participants file)) _ m3.1 in
    let m5 = or_parts (is_without_entry (get (codes "related") file)) _ m4.1 in
    let m6 = or_parts (list_any (lacks (codes "a")) (related_pairs file)) (list_any (lacks (codes "b")) (related_pairs file)) m5.1 in
    let b1 = or_parts (is_no_name (get (codes "venue") file)) _ bad in
    let b2 = or_parts (is_no_list (get (codes "participant") file)) _ b1.1 in
    let b3 = or_parts (list_any is_bad_participant (participants file)) _ b2.1 in
    let b4 = or_parts (is_no_list (get (codes "related") file)) (list_any is_bad_pair (related_pairs file)) b3.1 in
    record {
      venue = name-there (get (codes "venue") file) m1.0 b1.0;
      some = some-entries (get (codes "participant") file) m2.0 m3.0 b2.0;
      few = few_of (length (participants file)) many;
      all = names_of_entries (participants file) m4.0 b3.0;
      first = firsts (related_pairs file) m6.0 b4.1;
      second = seconds (related_pairs file) m6.1 b4.1;
      apart = differing (related_pairs file) b4.1;
      rows = passed (is_missing file) _ _ missing ∙ (passed (has_bad_value file) _ _ bad ∙ passed (has_too_many file) _ _ many);
    }
  where
    few_of : (n : ℕ) → nat_lt most_participants n ≡ false → nat_le n most_participants ≡ true
    few_of n h = grind (arith, nat_tests)

pub rows-read : (file : Data) (venue : List ℕ) (ns : List (List ℕ)) (ps : List (List ℕ × List ℕ)) → Sound file → venue ≡ venue_name file → ns ≡ names file → ps ≡ named_pairs file → rows_of venue ns ps ≡ read_of file
rows-read file venue ns ps s v n p = ap (λ x. rows_of x ns ps) v ∙ (ap (λ x. rows_of (venue_name file) x ps) n ∙ (ap (λ x. rows_of (venue_name file) (names file) x) p ∙ sym s.rows))

-- the reading of a document is that of its text

pub Reads-err : (text : List ℕ) (document : Members) (d : Data) (fault : FileFault) → d ≡ table document → IsUtf8 text → parse_document text ≡ Some document → Refuses (read_of d) fault → IsFaultOf text fault
Reads-err text document d NotToml same utf8 parsed h = absurd h
Reads-err text document d NoMemory same utf8 parsed h = tt
Reads-err text document d Missing same utf8 parsed h = (document, utf8, parsed, ap read_of (sym same) ∙ h)
Reads-err text document d Twice same utf8 parsed h = (document, utf8, parsed, ap read_of (sym same) ∙ h)
Reads-err text document d UnknownName same utf8 parsed h = (document, utf8, parsed, ap read_of (sym same) ∙ h)
Reads-err text document d TooMany same utf8 parsed h = (document, utf8, parsed, ap read_of (sym same) ∙ h)
Reads-err text document d BadValue same utf8 parsed h = (document, utf8, parsed, ap read_of (sym same) ∙ h)
