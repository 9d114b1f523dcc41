-- A comparison, from its parts.
use Rattle.std.proofs.Common.{◌≡◌, ℕ, List, [], ◌∷◌, ◌++◌, length, Option, refl, sym, ap, ◌∙◌, subst}
use Rattle.std.specs.Io.KnownBytes.{Appends}
use Rattle.participants.specs.Relations.{name_of}
use Rattle.participants.specs.ParticipantFile.{ParticipantFile}
use Rattle.venue_rules.specs.declared.trail.TrailRow.{TrailRow}
use Rattle.venue_rules.specs.Market.{Market}
use Rattle.venue_core.specs.State.{State}
use Rattle.row_replay.specs.Laws.{AreTheirs}
use Rattle.desk_log.specs.declared.comparing.Compared.{Compared}
use Rattle.desk_log.specs.declared.comparing.Comparison.{Comparison}
use Rattle.desk_log.specs.declared.comparing.Comparison.TheVariants.{All, FirstPart, Differs}
use Rattle.desk_log.specs.declared.owed.Owed.{Owed}
use Rattle.desk_log.specs.declared.reading.Reading.{Reading}
use Rattle.desk_log.specs.Compares.{Agrees, Compares, HasNone}
use Rattle.desk_log.specs.Comparing.{Says, agreed, comparison_of, owed_texts as kept_texts}
use Rattle.desk_log.specs.Numbered.{texts_in}
use Rattle.desk_log.specs.Owed.{IsOwed, owed_texts, owed_views, texts_of}
use Rattle.desk_log.specs.Reading.{IsReading}
use Rattle.desk_log.specs.Report.{report}
use Rattle.desk_log.specs.Times.{times_text}
use Rattle.desk_log.proofs.OwedRows.{texts_are_owed}
use Rattle.desk_log.proofs.Saying.{says}

abbrev pub printed : ParticipantFile → ℕ → List ℕ → Compared → List Owed → Reading → List TrailRow → List ℕ
printed file who log c owed reading rs = report file.venue (name_of file who) log c owed reading ++ times_text file.venue (name_of file who) log c.comparison rs reading

kept : (os : List Owed) → kept_texts os ≡ texts_of (owed_views os)
kept [] = refl
kept (o ∷ os) = ap (λ (l : List (List ℕ)). o.text.items ∷ l) (kept os)

pub compares : AreTheirs → (m : Market) (rs : List TrailRow) (who : ℕ) (log : List ℕ) (s : State) (owed : List Owed) (reading : Reading) (c : Compared) (text : List ℕ) (before after : Option (List ℕ))
    → IsReading m.participants.venue (name_of m.participants who) log reading → IsOwed m who rs s (owed_views owed) → c.count ≡ agreed log reading.once.items owed
    → c.comparison ≡ comparison_of reading.conflict (agreed log reading.once.items owed) (length reading.once.items) (length owed)
    → text ≡ printed m.participants who log c owed reading rs → Appends before after text → Compares c.comparison m rs who log before after
compares law m rs who log s owed reading c text before after read o count comparison is written =
    let texts = texts_in log reading.once.items in
    let all : kept_texts owed ≡ owed_texts m who o.items = kept owed ∙ ap texts_of o.owed ∙ texts_are_owed m who rs o.items o.emitted in
    record {
      items = o.items;
      inputs = law rs o.items o.emitted;
      owed = owed;
      owes = o.owed;
      reading = reading;
      read = read;
      count = c.count;
      says = subst (Says c.comparison reading.conflict c.count texts) all
          (subst (λ (n : ℕ). Says c.comparison reading.conflict n texts (kept_texts owed)) (sym count)
          (subst (λ (x : Comparison). Says x reading.conflict (agreed log reading.once.items owed) texts (kept_texts owed)) (sym comparison) (says reading.conflict log reading.once.items owed)));
      written = subst (Appends before after) is written;
    }

-- the same of what is lent
pub compares_lent : AreTheirs → (m : Market) (file : ParticipantFile) (rs : List TrailRow) (who : ℕ) (log : List ℕ) (s : State) (owed one two : List Owed) (reading : Reading) (c : Compared) (text lent : List ℕ) (before after : Option (List ℕ))
    → file ≡ m.participants → one ≡ owed → two ≡ owed → lent ≡ text
    → IsReading m.participants.venue (name_of m.participants who) log reading → IsOwed m who rs s (owed_views owed) → c.count ≡ agreed log reading.once.items one
    → c.comparison ≡ comparison_of reading.conflict (agreed log reading.once.items one) (length reading.once.items) (length one)
    → text ≡ printed file who log c two reading rs → Appends before after lent → Compares c.comparison m rs who log before after
compares_lent law m file rs who log s owed one two reading c text lent before after own first second bytes read o count comparison is written =
    compares law m rs who log s owed reading c text before after read o
    (count ∙ ap (λ (os : List Owed). agreed log reading.once.items os) first)
    (comparison ∙ ap (λ (os : List Owed). comparison_of reading.conflict (agreed log reading.once.items os) (length reading.once.items) (length os)) first)
    (is ∙ ap (λ (os : List Owed). printed file who log c os reading rs) second ∙ ap (λ (f : ParticipantFile). printed f who log c owed reading rs) own)
    (subst (Appends before after) bytes written)

pub agrees : (c : Comparison) (m : Market) (rs : List TrailRow) (who : ℕ) (log : List ℕ) (before after : Option (List ℕ)) → Compares c m rs who log before after → c ≡ All → Agrees m rs who log
agrees All m rs who log before after h is = record { items = h.items; inputs = h.inputs; once = h.reading.once.items; each = h.read.once; same = h.says.1 }
agrees FirstPart m rs who log before after h is = absurd (cc)
agrees Differs m rs who log before after h is = absurd (cc)

-- for another's names of the participants
pub read_for : (file own : ParticipantFile) (who : ℕ) (log : List ℕ) (r : Reading) → file ≡ own → IsReading file.venue (name_of file who) log r → IsReading own.venue (name_of own who) log r
read_for file own who log r same h = subst (λ (f : ParticipantFile). IsReading f.venue (name_of f who) log r) same h

pub none_for : (m : Market) (who : ℕ) (log : List ℕ) (r : Reading) → IsReading m.participants.venue (name_of m.participants who) log r → r.frames.items ≡ [] → HasNone m who log
none_for m who log r read none = sym read.frames ∙ none
