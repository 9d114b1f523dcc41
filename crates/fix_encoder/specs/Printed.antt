-- Printed values without their place in memory.
use Rattle.std.specs.Prelude.{ℕ, List, [], ◌∷◌, Option, None, Some, decimal, map}
use Rattle.fix_fields.specs.Forms.{price_text}
use Rattle.sef_moment.specs.Utc.{utc_text}
use Rattle.fix_encoder.specs.declared.print.Printed.{Printed}
use Rattle.fix_encoder.specs.declared.print.Printed.TheVariants.{Bytes, Number, Price, Moment, Byte}
use Rattle.fix_encoder.specs.declared.print.Slot as values
use Rattle.fix_dictionary.specs.Text.{Slot}

abbrev pub printed : Printed → List ℕ
printed (Bytes bytes) = bytes.now
printed (Number number) = decimal number
printed (Price price) = price_text price
printed (Moment moment) = utc_text moment
printed (Byte byte) = byte ∷ []

abbrev pub printed_option : Option Printed → Option (List ℕ)
printed_option None = None
printed_option (Some value) = Some (printed value)

abbrev pub slot : values.Slot → Slot
slot s = (s.tag, printed_option s.value)

abbrev pub slots : List values.Slot → List Slot
slots list = map slot list
