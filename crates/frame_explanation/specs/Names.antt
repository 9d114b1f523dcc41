-- The FIX names of fields and message types, as the data dictionaries have them.
use Rattle.std.specs.Prelude.{ℕ, ◌==◌, List, [], ◌∷◌, length, if◌then◌else◌, bytes_eq, codes}
use Rattle.data_dictionary.specs.Fields.{name_of}
use Rattle.data_dictionary.specs.MessageTypes.{Listed, application_types, session_types}

abbrev pub name_among : List Listed → List ℕ → List ℕ
name_among [] code = []
name_among (kind ∷ kinds) code = if bytes_eq kind.code code then kind.name else name_among kinds code

-- the first text, or the second where it is empty
abbrev pub or_else : List ℕ → List ℕ → List ℕ
or_else text other = if length text == 0 then other else text

abbrev pub kind_name : List ℕ → List ℕ
kind_name code = or_else (name_among session_types code) (or_else (name_among application_types code) (codes "a type that the venue does not know"))

abbrev pub field_name : ℕ → List ℕ
field_name tag = or_else (name_of tag) (codes "no field of the venue")

-- the names of fields that change what an order means, and that the venue does not read
abbrev pub order_name : ℕ → List ℕ
order_name tag =
    if tag == 1 then codes "Account" else (
    if tag == 18 then codes "ExecInst" else (
    if tag == 110 then codes "MinQty" else (
    if tag == 111 then codes "MaxFloor" else (
    if tag == 210 then codes "MaxShow" else (
    if tag == 432 then codes "ExpireDate" else (
    if tag == 582 then codes "CustOrderCapacity" else (
    if tag == 1138 then codes "DisplayQty" else [])))))))

abbrev pub ignored_name : ℕ → List ℕ
ignored_name tag = or_else (order_name tag) (field_name tag)
