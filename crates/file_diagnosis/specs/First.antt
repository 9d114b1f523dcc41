-- A cause is true of its entry, and of no entry before.
use Rattle.std.specs.Prelude.{◌≡◌, ℕ, ◌+◌, ◌<◌, List, length, take, get_or, Some, None}
use Rattle.toml.specs.Data.{Data, get}
use Rattle.config_format.specs.Document.{entries_in}
use Rattle.file_diagnosis.specs.declared.cause.Cause.{Cause}
use Rattle.file_diagnosis.specs.declared.cause.Look.{Look}
use Rattle.file_diagnosis.specs.declared.cause.Part.{Part}
use Rattle.file_diagnosis.specs.Causes.{at, first_in, part_word, wrong_in}

-- the entry at place k, from 0 on, has this fault, and none before it has one
pub record IsFirst (file : Data) (p : Part) (l : Look) (es : List Data) (cause : Cause) : Type 0 where
  pub k : ℕ
  pub within : k < length es
  pub here : cause ≡ at p (k + 1) cause.wrong
  pub wrong : (d : Data) → wrong_in file l (take k es) (get_or es k d) ≡ Some cause.wrong
  pub earlier : (j : ℕ) (d : Data) → j < k → wrong_in file l (take j es) (get_or es j d) ≡ None

abbrev pub AreFirst : Type 0
AreFirst = (file : Data) (p : Part) (l : Look) (cause : Cause) → first_in file p l ≡ Some cause → IsFirst file p l (entries_in (get (part_word p) file)) cause
