-- The head above an answer: which trail it is from.
use Rattle.std.specs.Prelude.{◌≡◌, List, ℕ, Option, None, Some}
use Rattle.std.specs.Io.KnownBytes.{Appends}
use Rattle.message_words.specs.declared.form.Form.{Form}
use Rattle.message_words.specs.declared.form.Form.TheVariants as form
use Rattle.trail_digest.specs.Head.{head_text}
use Rattle.trail_digest.specs.Trail.{Trail}
use Rattle.trail_digest.specs.declared.head.HeadForm.{HeadForm}
use Rattle.trail_digest.specs.declared.head.HeadForm.TheVariants as head

-- the head above an answer in a form; a table has none
abbrev pub head_form : Form → Option HeadForm
head_form form.Lines = Some head.Line
head_form form.Table = None
head_form form.Json = Some head.Json

-- the head is written, where there is one
abbrev pub Heads : Option HeadForm → Trail → (before mid : Option (List ℕ)) → Type 0
Heads None trail before mid = mid ≡ before
Heads (Some form) trail before mid = Appends before mid (head_text form trail)

-- the output is `text`: the head, and behind it what the printer of the answer wrote there
pub record IsBehindHead (form : HeadForm) (trail : Trail) (Emits : (before after : Option (List ℕ)) → Type 0) (before after : Option (List ℕ)) : Type 0 where
  pub text : List ℕ
  pub written : Appends before after text
  pub emits : Emits (Some (head_text form trail)) (Some text)

-- the answer stands behind its head, where there is one
abbrev pub Under : Option HeadForm → Trail → (Emits : (before after : Option (List ℕ)) → Type 0) → (before after : Option (List ℕ)) → Type 0
Under None trail Emits before after = Emits before after
Under (Some form) trail Emits before after = IsBehindHead form trail Emits before after
