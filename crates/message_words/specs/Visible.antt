-- A message as FIX has it, so that one can see it.
use Rattle.std.specs.Prelude.{ℕ, ◌/◌, ◌%◌, ◌==◌, ◌||◌, nat_lt, List, [], ◌∷◌, map, if◌then◌else◌}
use Rattle.std.specs.List.{flat_map}
use Rattle.fix_dictionary.specs.Text.{app_text}
use Rattle.fix_dictionary.specs.declared.messages.App.{App}
use Rattle.message_words.specs.Json.{hex_digit}

-- | stands for the byte 1
abbrev pub visible_byte : ℕ → ℕ
visible_byte b = if b == 1 then 124 else b

abbrev pub visible : List ℕ → List ℕ
visible text = map visible_byte text

-- The same of any bytes, as a trail keeps them: a value of a field that is not used may have a byte that is not
-- printed, as the end of a line. It stands as \x and two hexadecimal digits, so that no text of a row looks like a row.

abbrev pub readable_byte : ℕ → List ℕ
readable_byte b = if b == 1 then 124 ∷ [] else (if nat_lt b 32 || nat_lt 126 b then 92 ∷ 120 ∷ hex_digit (b / 16) ∷ hex_digit (b % 16) ∷ [] else b ∷ [])

abbrev pub readable : List ℕ → List ℕ
readable text = flat_map readable_byte text

-- a message as FIX has it
abbrev pub fix_text : App → List ℕ
fix_text a = visible (app_text a)
