use Rattle.std.proofs.Common.{◌≡◌, refl, sym, ap, ◌∙◌, true, false, ◌&&◌, ◌==◌, nat_le, List, [], ◌∷◌, map, length, suc, arith, ne_eqb, le-leb, Option, Some, None, is_none, is_some, option_and_then}
use Rattle.std.proofs.lemmas.Bool.{true≢false, not-false}
use Rattle.toml.specs.Data.{Data, Items, Members, no_items, item, array, string, integer, float, boolean, datetime, table, as_array}
use Rattle.toml.specs.View.{view, items_of, items_view}
use Rattle.toml.specs.declared.value.Value.{Value}
use Rattle.config_format.specs.Names.{is_name}
use Rattle.config_format.specs.Document.{entries_in, is_no_list, is_no_name, is_without_entry, text_in, values}

-- A list of a document and its values, and the value at a key.

pub values-items_of : (ds : List Data) → values (items_of ds) ≡ ds
values-items_of [] = refl
values-items_of (d ∷ ds) = ap (λ es. d ∷ es) (values-items_of ds)

no_array : (o : Option Data) → option_and_then as_array o ≡ None → entries_in o ≡ []
no_array None h = refl
no_array (Some (array ds)) h = absurd (some_none ds h)
  where
    some_none : (x : Items) → Some x ≡ None → ⊥
    some_none x k = cc
no_array (Some (string s)) h = refl
no_array (Some (integer z)) h = refl
no_array (Some (float x)) h = refl
no_array (Some (boolean b)) h = refl
no_array (Some (datetime d)) h = refl
no_array (Some (table ms)) h = refl

pub entries-none : (o : Option Data) → None ≡ option_and_then as_array o → entries_in o ≡ []
entries-none o h = no_array o (sym h)

pub is_without_entry-none : (o : Option Data) → None ≡ option_and_then as_array o → is_without_entry o ≡ false
is_without_entry-none None h = refl
is_without_entry-none (Some (array ds)) h = absurd (none_some ds h)
  where
    none_some : (x : Items) → None ≡ Some x → ⊥
    none_some x k = cc
is_without_entry-none (Some (string s)) h = refl
is_without_entry-none (Some (integer z)) h = refl
is_without_entry-none (Some (float x)) h = refl
is_without_entry-none (Some (boolean b)) h = refl
is_without_entry-none (Some (datetime d)) h = refl
is_without_entry-none (Some (table ms)) h = refl

not_there : (ds : Items) → None ≡ Some ds → ⊥
not_there ds k = cc

is_array : (o : Option Data) (ds : Items) → option_and_then as_array o ≡ Some ds → o ≡ Some (array ds)
is_array (Some (array es)) ds h = ap (λ x. Some (array x)) (same es ds h)
  where
    same : (x y : Items) → Some x ≡ Some y → x ≡ y
    same x y k = cc
is_array None ds h = absurd (none_some ds h)
  where
    none_some : (x : Items) → None ≡ Some x → ⊥
    none_some x k = cc
is_array (Some (string s)) ds h = absurd (not_there ds h)
is_array (Some (integer z)) ds h = absurd (not_there ds h)
is_array (Some (float x)) ds h = absurd (not_there ds h)
is_array (Some (boolean b)) ds h = absurd (not_there ds h)
is_array (Some (datetime d)) ds h = absurd (not_there ds h)
is_array (Some (table ms)) ds h = absurd (not_there ds h)

pub entries-array : (o : Option Data) (vs : List Value) → Some (items_view vs) ≡ option_and_then as_array o → entries_in o ≡ map view vs
entries-array o vs h = ap entries_in (is_array o (items_view vs) (sym h)) ∙ values-items_of (map view vs)

without-items_of : (ds : List Data) → is_without_entry (Some (array (items_of ds))) ≡ (length ds == 0)
without-items_of [] = refl
without-items_of (d ∷ ds) = sym (ne_eqb (suc (length ds)) 0 (λ e. absurd (omega (arith, e))))

pub is_without_entry-array : (o : Option Data) (vs : List Value) → Some (items_view vs) ≡ option_and_then as_array o → is_without_entry o ≡ (length (map view vs) == 0)
is_without_entry-array o vs h = ap is_without_entry (is_array o (items_view vs) (sym h)) ∙ without-items_of (map view vs)

-- a stated value that is not a bad name is a name
pub name-there : (o : Option Data) → is_none o ≡ false → is_no_name o ≡ false → is_name (text_in o) ≡ true
name-there None h k = absurd (true≢false h)
name-there (Some (string s)) h k = not-false (is_name s) k
name-there (Some (integer z)) h k = absurd (true≢false k)
name-there (Some (float x)) h k = absurd (true≢false k)
name-there (Some (boolean b)) h k = absurd (true≢false k)
name-there (Some (datetime d)) h k = absurd (true≢false k)
name-there (Some (array ds)) h k = absurd (true≢false k)
name-there (Some (table ms)) h k = absurd (true≢false k)

-- of a table that has the key
pub key-there : (t : Option Members) (o : Option Data) → is_none t ≡ false → (is_some t && is_none o) ≡ false → is_none o ≡ false
key-there None o h k = absurd (true≢false h)
key-there (Some t) o h k = k

-- a stated list with an entry
pub some-entries : (o : Option Data) → is_none o ≡ false → is_without_entry o ≡ false → is_no_list o ≡ false → nat_le 1 (length (entries_in o)) ≡ true
some-entries None h k n = absurd (true≢false h)
some-entries (Some (array no_items)) h k n = absurd (true≢false k)
some-entries (Some (array (item d ds))) h k n = le-leb 1 _ (omega arith)
some-entries (Some (string s)) h k n = absurd (true≢false n)
some-entries (Some (integer z)) h k n = absurd (true≢false n)
some-entries (Some (float x)) h k n = absurd (true≢false n)
some-entries (Some (boolean b)) h k n = absurd (true≢false n)
some-entries (Some (datetime d)) h k n = absurd (true≢false n)
some-entries (Some (table ms)) h k n = absurd (true≢false n)
