-- Numbers in words, as the venue prints them.
use Rattle.std.specs.Prelude.{◌≡◌, ◌⊎◌, ◌++◌, ℕ, List, codes, decimal}
use Rattle.trail_answers.specs.declared.scope.RowSpan.{RowSpan}

-- the word is the number of one row, or those of the first and the last of some with a dash between them
abbrev pub SpellsSpan : List ℕ → RowSpan → Type 0
SpellsSpan word span = ((word ≡ decimal span.first) × (span.first ≡ span.last)) ⊎ (word ≡ decimal span.first ++ codes "-" ++ decimal span.last)
