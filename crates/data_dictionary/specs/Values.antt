-- The values of the fields that have few: those that the venue reads, with their names in FIX 5.0 SP2.
use Rattle.std.specs.Prelude.{ℕ, List, [], ◌∷◌, codes}
use Rattle.data_dictionary.specs.declared.fields.DataType.{DataType}
use Rattle.data_dictionary.specs.declared.fields.DataType.TheVariants as types

pub record Named : Type 0 where
  pub value : List ℕ
  pub name : List ℕ

abbrev pub named : List ℕ → List ℕ → Named
named value name = record { value = value; name = name }

unfoldable pub values_of : DataType → List Named
values_of types.Version = named (codes "9") (codes "FIX50SP2") ∷ []
values_of types.Side = named (codes "1") (codes "BUY") ∷ named (codes "2") (codes "SELL") ∷ []
values_of types.Flag = named (codes "N") (codes "NO") ∷ named (codes "Y") (codes "YES") ∷ []
values_of types.NoEncryption = named (codes "0") (codes "NONE_OTHER") ∷ []
values_of types.One = named (codes "1") (codes "ONE_INSTRUMENT") ∷ []
values_of types.Two = named (codes "2") (codes "BOTH_SIDES") ∷ []
values_of _ = []
