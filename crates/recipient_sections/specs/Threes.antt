-- Of those whom a request asked the first three who are unrelated to its requester and to each other (17 CFR
-- 37.9(a)(2), (a)(3)), and which of all named, the requester among them, are related.
use Rattle.std.specs.Prelude.{ℕ, ◌-◌, ◌==◌, List, [], ◌∷◌, length, map, Option, Some, None, if◌then◌else◌}
use Rattle.std.specs.List.{flat_map}
use Rattle.page_text.specs.Parts.{Part}
use Rattle.participants.specs.ParticipantFile.{ParticipantFile}
use Rattle.participants.specs.Relations.{name_of}
use Rattle.unrelated_recipients.specs.declared.threes.Three.{Three}
use Rattle.unrelated_recipients.specs.Pairs.{related_pairs}
use Rattle.unrelated_recipients.specs.Threes.{first_three}
use Rattle.day_events.specs.declared.event.Event.{Event}
use Rattle.day_tables.specs.Parts.{framed, plain_part}
use Rattle.day_sections.specs.Values.{sender_of}
use Rattle.recipient_sections.specs.declared.template.TheConstants.{NONE_RELATED, NO_THREE, RELATED, RELATED_PAIR, THREE, THREE_RULE}

-- the requester, and those who were asked
abbrev pub requester_of : Event → ℕ
requester_of e = e.at.from - 1

abbrev pub asked_of : List Event → List ℕ
asked_of asked = map (λ (e : Event). e.to) asked

abbrev pub three_part : ParticipantFile → ℕ → Three → Part
three_part file from t = record { template = THREE.now; values = name_of file t.first ∷ name_of file t.second ∷ name_of file t.third ∷ sender_of file from ∷ [] }

abbrev pub no_three_part : ParticipantFile → ℕ → Part
no_three_part file from = record { template = NO_THREE.now; values = sender_of file from ∷ [] }

abbrev pub three_found : ParticipantFile → ℕ → Option Three → Part
three_found file from None = no_three_part file from
three_found file from (Some t) = three_part file from t

abbrev pub pair_parts : ParticipantFile → ℕ × ℕ → List Part
pair_parts file p = record { template = RELATED_PAIR.now; values = name_of file p.0 ∷ name_of file p.1 ∷ [] } ∷ []

abbrev pub some_related : ParticipantFile → List (ℕ × ℕ) → List Part
some_related file pairs = plain_part RELATED.now ∷ flat_map (pair_parts file) pairs

abbrev pub related_parts : ParticipantFile → List (ℕ × ℕ) → List Part
related_parts file pairs = if length pairs == 0 then plain_part NONE_RELATED.now ∷ [] else some_related file pairs

-- by those who were asked
abbrev pub whole_section : ParticipantFile → Event → List ℕ → List Part
whole_section file e rs =
    framed (three_found file e.at.from (first_three file (requester_of e) rs)) (related_parts file (related_pairs file (requester_of e ∷ rs))) (plain_part THREE_RULE.now)

abbrev pub three_section : ParticipantFile → Event → List Event → List Part
three_section file e asked = whole_section file e (asked_of asked)
