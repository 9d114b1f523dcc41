use Rattle.std.proofs.Common.{◌≡◌, refl, ap, ◌∙◌, ℕ, ◌+◌, ◌-◌, ◌==◌, false, List, [], ◌∷◌, map, arith, ne_eqb, if◌then◌else◌}
use Rattle.std.specs.List.{enumerate_from}
use Rattle.fix_dictionary.specs.declared.messages.App.{App}
use Rattle.fix_dictionary.specs.Text.{app_text}
use Rattle.venue_rules.specs.declared.trail.Taken.{Taken}
use Rattle.venue_rules.specs.Run.{Input, Message, Tick, row}
use Rattle.venue_rules.specs.Limits.{AreInOrder, IsRising, RowsAreInOrder}
use Rattle.venue_rules.specs.ReadBack.{AreReadBack, RowsAreReadBack, input_of}

-- The rows of a list of inputs give the list back.

no_tick : (n : ℕ) → (n + 1 == 0) ≡ false
no_tick n = ne_eqb (n + 1) 0 (λ h. absurd (omega (arith, h)))

back : (n : ℕ) → n + 1 - 1 ≡ n
back n = omega arith

message_back : (read : List ℕ → App) (n : ℕ) (taken : Taken) (t : ℕ) → read (app_text taken.item.app) ≡ taken.item.app → input_of read (row n (Message taken t)) ≡ Message taken t
message_back read n taken t same =
    ap (λ b. if b then Tick t else Message (record { from = taken.from + 1 - 1; item = record { era = taken.item.era; number = taken.item.number; app = read (app_text taken.item.app) } }) t) (no_tick taken.from)
    ∙ (ap (λ w. Message (record { from = w; item = record { era = taken.item.era; number = taken.item.number; app = read (app_text taken.item.app) } }) t) (back taken.from)
    ∙ ap (λ a. Message (record { from = taken.from; item = record { era = taken.item.era; number = taken.item.number; app = a } }) t) same)

rows_back : (read : List ℕ → App) (n : ℕ) (is : List Input) → AreReadBack read is → map (input_of read) (map (λ p. row p.0 p.1) (enumerate_from n is)) ≡ is
rows_back read n [] k = refl
rows_back read n (Message taken t ∷ is) k = ap (λ i. i ∷ map (input_of read) (map (λ p. row p.0 p.1) (enumerate_from (n + 1) is))) (message_back read n taken t k.0) ∙ ap (λ xs. Message taken t ∷ xs) (rows_back read (n + 1) is k.1)
rows_back read n (Tick t ∷ is) k = ap (λ xs. Tick t ∷ xs) (rows_back read (n + 1) is k)

pub rows_read_back : RowsAreReadBack
rows_read_back read is k = rows_back read 1 is k

-- rows' numbers and moments are in order

in_order : (n from : ℕ) (is : List Input) (to : ℕ) → IsRising from is to → AreInOrder n from (map (λ p. row p.0 p.1) (enumerate_from (n + 1) is))
in_order n from [] to r = tt
in_order n from (Message taken t ∷ is) to r = ((refl, r.0), in_order (n + 1) t is to r.1)
in_order n from (Tick t ∷ is) to r = ((refl, r.0), in_order (n + 1) t is to r.1)

pub rows_in_order : RowsAreInOrder
rows_in_order is to r = in_order 0 0 is to r
