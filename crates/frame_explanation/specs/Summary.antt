-- What to look at first: where a number fell, what the venue ignored, which frames have a fault or end a connection.
use Rattle.std.specs.Prelude.{ℕ, ◌==◌, List, [], ◌∷◌, ◌++◌, length, Option, Some, None, if◌then◌else◌, codes, decimal}
use Rattle.std.specs.List.{flat_map}
use Rattle.fix_session.specs.Reader.{Reader}
use Rattle.fix_session.specs.declared.plan.Step.{Step}
use Rattle.fix_session.specs.declared.plan.Step.TheVariants as step
use Rattle.message_words.specs.Visible.{readable}
use Rattle.participants.specs.ParticipantFile.{ParticipantFile}
use Rattle.frame_explanation.specs.declared.log_items.Source.{Source}
use Rattle.frame_explanation.specs.declared.log_items.Source.TheVariants as source
use Rattle.frame_explanation.specs.declared.log_items.LogItem.{LogItem}
use Rattle.frame_explanation.specs.declared.log_items.Heard.{Heard}
use Rattle.frame_explanation.specs.Bodies.{body_fault}
use Rattle.frame_explanation.specs.Broken as broken
use Rattle.frame_explanation.specs.Falls.{falls_below}
use Rattle.frame_explanation.specs.Ignored.{ignored, ignored_lines, is_unsupported, kind_of}
use Rattle.frame_explanation.specs.Parts.{joined}
use Rattle.frame_explanation.specs.Pieces.{value_in}
use Rattle.frame_explanation.specs.Text.{step_line, stranger}

-- a type that the venue does not know
abbrev pub unknown_line : List ℕ → List ℕ
unknown_line kind = joined (codes "    35=" ∷ kind ∷ codes " is a type that the venue does not know\n" ∷ [])

abbrev pub unknown_if : List ℕ → List ℕ
unknown_if body = if is_unsupported (kind_of body) then unknown_line (readable (value_in (codes "35=") body)) else []

-- the end of a connection
abbrev pub drop_line : ParticipantFile → LogItem → Option Step → List ℕ
drop_line names listed (Some (step.Dropped why)) = step_line names listed.who (length listed.body.items) (step.Dropped why)
drop_line names listed (Some step.Did) = []
drop_line names listed (Some step.Idle) = []
drop_line names listed (Some (step.App number)) = []
drop_line names listed None = []

-- lines of a frame, behind its number
abbrev pub of_frame : ℕ → List ℕ → List ℕ
of_frame number lines = if length lines == 0 then [] else joined (codes "    frame " ∷ decimal number ∷ codes ":" ∷ lines ∷ [])

abbrev pub fault_of : Reader → (number : ℕ) → (body : List ℕ) → List ℕ
fault_of r number body = of_frame number (body_fault (r.fields body))

abbrev pub came_faults : Reader → ParticipantFile → Heard → List ℕ
came_faults r names heard =
    fault_of r heard.item.number heard.item.body.items
    ++ (of_frame heard.item.number (unknown_if heard.item.body.items)
    ++ (of_frame heard.item.number (stranger names heard.item.body.items)
    ++ of_frame heard.item.number (drop_line names heard.item heard.step)))

abbrev pub faults_as : Source → Reader → ParticipantFile → Heard → List ℕ
faults_as source.Participant r names heard = came_faults r names heard
faults_as source.Assumed r names heard = []
faults_as source.Venue r names heard = fault_of r heard.item.number heard.item.body.items
faults_as source.Broken r names heard = of_frame heard.item.number (broken.why heard.item.text.items)

abbrev pub faults_of : Reader → ParticipantFile → Heard → List ℕ
faults_of r names heard = faults_as heard.item.source r names heard

abbrev pub noted : Reader → ParticipantFile → List Heard → List ℕ
noted r names heard =
    falls_below names heard (length names.names)
    ++ (ignored_lines (ignored r heard)
    ++ flat_map (faults_of r names) heard)

abbrev pub headed : List ℕ → List ℕ
headed lines =
    if length lines == 0
    then codes "summary: no number fell, no field was ignored, no frame has a fault or ends a connection\n"
    else joined (codes "summary:\n" ∷ lines ∷ [])

-- nothing of a log without frames
abbrev pub summary : Reader → ParticipantFile → List Heard → List ℕ
summary r names heard = if length heard == 0 then [] else headed (noted r names heard)
