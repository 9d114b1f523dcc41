-- What is sent to whom, by name: participants of one name may have other places in another file.
use Rattle.std.specs.Prelude.{ℕ, Bool, true, false, ◌&&◌, List, [], ◌∷◌, map, bytes_eq}
use Rattle.fix_dictionary.specs.Text.{app_text}
use Rattle.participants.specs.ParticipantFile.{ParticipantFile}
use Rattle.participants.specs.Relations.{name_of}
use Rattle.venue_rules.specs.declared.replies.Reply.{Reply}
use Rattle.venue_rules.specs.Messages.{message}

-- a reply as it is sent: to whom, and its text as FIX has it
pub record Sent : Type 0 where
  pub to : List ℕ
  pub text : List ℕ

abbrev pub sent : ParticipantFile → Reply → Sent
sent file r = record { to = name_of file r.to; text = app_text (message r.what) }

abbrev pub sent_all : ParticipantFile → List Reply → List Sent
sent_all file rs = map (sent file) rs

-- two replies, each with the participants of its own file, are sent alike
abbrev pub is_same : (one other : ParticipantFile) → Reply → Reply → Bool
is_same one other r s = bytes_eq (name_of one r.to) (name_of other s.to) && bytes_eq (app_text (message r.what)) (app_text (message s.what))

-- and all replies, in order
abbrev pub are_same : (one other : ParticipantFile) → List Reply → List Reply → Bool
are_same one other [] [] = true
are_same one other [] (s ∷ ss) = false
are_same one other (r ∷ rs) [] = false
are_same one other (r ∷ rs) (s ∷ ss) = is_same one other r s && are_same one other rs ss
