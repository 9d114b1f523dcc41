-- JSON Lines: objects of JSON (RFC 8259), each on a line of its own.
--
--       {"row":12,"from":"BETA","number":3,"to":null,"text":"35=D|11=b2|55=BASIS1Y"}
--
-- A byte of a text is printed as the character of the same number: a quotation mark and a backslash behind a
-- backslash, and a byte below 32 or above 126 as \u00 and two hexadecimal digits. So a line has bytes from 32 to 126
-- alone: it is valid JSON, and valid UTF-8, whatever the bytes of the texts are.
use Rattle.std.specs.Prelude.{ℕ, ◌+◌, ◌/◌, ◌%◌, ◌==◌, ◌||◌, nat_lt, List, [], ◌∷◌, ◌++◌, codes, decimal, if◌then◌else◌}
use Rattle.std.specs.List.{flat_map}
use Rattle.message_words.specs.declared.json.JsonValue.{JsonValue}
use Rattle.message_words.specs.declared.json.JsonValue.TheVariants.{Text, Number, Null}
use Rattle.message_words.specs.declared.json.JsonMember.{JsonMember}

-- a digit from 0 to 9, or from a to f
abbrev pub hex_digit : ℕ → ℕ
hex_digit n = if nat_lt n 10 then n + 48 else n + 87

abbrev pub escaped : ℕ → List ℕ
escaped b = 92 ∷ 117 ∷ 48 ∷ 48 ∷ hex_digit (b / 16) ∷ hex_digit (b % 16) ∷ []

-- a byte within a text
abbrev pub json_byte : ℕ → List ℕ
json_byte b = if b == 34 || b == 92 then 92 ∷ b ∷ [] else (if nat_lt b 32 || nat_lt 126 b then escaped b else b ∷ [])

abbrev pub json_text : List ℕ → List ℕ
json_text text = 34 ∷ (flat_map json_byte text ++ 34 ∷ [])

abbrev pub json_number : ℕ → List ℕ
json_number n = decimal n

abbrev pub json_null : List ℕ
json_null = codes "null"

-- a member of an object: its name, and its value as JSON has it
abbrev pub Member : Type 0
Member = List ℕ × List ℕ

abbrev pub member_text : List ℕ → List ℕ → List ℕ
member_text name value = json_text name ++ 58 ∷ value

-- and behind another
abbrev pub next_member : List ℕ → List ℕ → List ℕ
next_member name value = 44 ∷ member_text name value

-- an object, on a line of its own
abbrev pub object_line : List Member → List ℕ
object_line [] = codes "{}\n"
object_line (m ∷ ms) = 123 ∷ (member_text m.0 m.1 ++ (flat_map (λ m. next_member m.0 m.1) ms ++ codes "}\n"))

-- The same of members that are lent.

abbrev pub json_shown : JsonValue → List ℕ
json_shown (Text text) = json_text text.now
json_shown (Number n) = json_number n
json_shown Null = json_null

abbrev pub lent_line : List JsonMember → List ℕ
lent_line [] = codes "{}\n"
lent_line (m ∷ ms) = 123 ∷ (member_text m.name.now (json_shown m.value) ++ (flat_map (λ m. next_member m.name.now (json_shown m.value)) ms ++ codes "}\n"))
