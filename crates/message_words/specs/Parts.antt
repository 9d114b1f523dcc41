-- A sentence as parts: each a text and what stands behind it. A part without a value says nothing.
use Rattle.std.specs.Prelude.{ℕ, List, [], ◌∷◌, ◌++◌, Option, Some, None, decimal}
use Rattle.std.specs.List.{flat_map}
use Rattle.fix_fields.specs.Forms.{price_text}
use Rattle.sef_moment.specs.Utc.{utc_text}
use Rattle.message_words.specs.declared.parts.Value.{Value}
use Rattle.message_words.specs.declared.parts.Value.TheVariants.{Bytes, Number, Price, Moment, Byte}
use Rattle.message_words.specs.declared.parts.Part as lent

abbrev pub Part : Type 0
Part = List ℕ × Option (List ℕ)

abbrev pub part_text : List ℕ → Option (List ℕ) → List ℕ
part_text before None = []
part_text before (Some value) = before ++ value

abbrev pub parts_text : List Part → List ℕ
parts_text ps = flat_map (λ p. part_text p.0 p.1) ps

-- words alone
abbrev pub words_alone : List ℕ → Part
words_alone text = (text, Some [])

-- The same of parts that are lent.

abbrev pub shown : Value → List ℕ
shown (Bytes bytes) = bytes.now
shown (Number number) = decimal number
shown (Price price) = price_text price
shown (Moment moment) = utc_text moment
shown (Byte byte) = byte ∷ []

abbrev pub shown_option : Option Value → Option (List ℕ)
shown_option None = None
shown_option (Some value) = Some (shown value)

abbrev pub lent_text : List lent.Part → List ℕ
lent_text ps = flat_map (λ p. part_text p.before.now (shown_option p.value)) ps
