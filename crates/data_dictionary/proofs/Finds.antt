-- A field is found by its tag, with or without its name's place in memory.
use Rattle.std.proofs.Common.{◌≡◌, refl, ℕ, Bool, true, false, List, [], ◌∷◌, nat_eq, map, Option, Some, cond}
use Rattle.std.specs.List.{find}
use Rattle.std.specs.Option.{option_map}
use Rattle.data_dictionary.specs.declared.fields.Field.{Field as HeldField}
use Rattle.data_dictionary.specs.Fields.{Field, seen}

step : (b : Bool) (f : HeldField) (r : Option HeldField) (q : Option Field) → option_map seen r ≡ q → option_map seen (cond b (Some f) r) ≡ cond b (Some (seen f)) q
step true f r q e = refl
step false f r q e = e

pub find_seen : (tag : ℕ) (fs : List HeldField) → option_map seen (find (λ (f : HeldField). nat_eq f.tag tag) fs) ≡ find (λ (f : Field). nat_eq f.tag tag) (map seen fs)
find_seen tag [] = refl
find_seen tag (f ∷ fs) = step (nat_eq f.tag tag) f _ _ (find_seen tag fs)
