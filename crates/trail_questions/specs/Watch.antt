-- The alarms of the day.
use Rattle.std.specs.Prelude.{Option, None, Some}
use Rattle.surveillance.specs.declared.form.Form.{Form}
use Rattle.surveillance.specs.declared.form.Form.TheVariants as form
use Rattle.trail_digest.specs.declared.head.HeadForm.{HeadForm}
use Rattle.trail_digest.specs.declared.head.HeadForm.TheVariants as head

-- the head above the alarms in a form; a table has none
abbrev pub watch_head : Form → Option HeadForm
watch_head form.Lines = Some head.Line
watch_head form.Table = None
