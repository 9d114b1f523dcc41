-- Notes of trades in the order of their numbers, without a gap.
use Rattle.std.specs.Prelude.{ℕ, ◌+◌, ◌==◌, Bool, true, ◌&&◌, List, [], ◌∷◌}
use Rattle.trade_reconstruction.specs.declared.trade_notes.TradeNotes.{TradeNotes}

-- from this number on
abbrev pub aligned_from : ℕ → List TradeNotes → Bool
aligned_from number [] = true
aligned_from number (x ∷ xs) = x.number == number && aligned_from (number + 1) xs

abbrev pub first_number : List TradeNotes → ℕ
first_number [] = 0
first_number (x ∷ xs) = x.number

abbrev pub are_aligned : List TradeNotes → Bool
are_aligned notes = aligned_from (first_number notes) notes
