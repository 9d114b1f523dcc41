-- What is printed of a cause is its sentence.
use Rattle.std.proofs.Common.{◌≡◌, ℕ, ◌==◌, Bool, true, false, List, [], ◌∷◌, ◌++◌, Option, Some, None, codes, if◌then◌else◌, refl, sym, ap, ◌∙◌, append_assoc}
use Rattle.std.proofs.lemmas.Bool.Decides.{Decides-eqb}
use Rattle.venue_rules.specs.declared.replies.Reply.{Reply}
use Rattle.venue_rules.specs.declared.replies.ReplyBody.{ReplyBody}
use Rattle.venue_rules.specs.Market.{Market}
use Rattle.venue_rules.specs.Run.{Input, Message, Tick, answer_input}
use Rattle.message_words.specs.Parts.{parts_text}
use Rattle.refusal_causes.specs.declared.figures.Figures.{Figures}
use Rattle.refusal_causes.specs.Figures.{due_figures, figures, figures_parts}
use Rattle.refusal_causes.specs.Meanings.{Prints, PrintsWhatHolds, meanings_at, first_meant, said_at}
use Rattle.refusal_causes.specs.Places.{due_count, due_named, counted_by, named_by}
use Rattle.refusal_causes.specs.Listed.{many_in, number_in}
use Rattle.refusal_causes.specs.Printed.{before_lines, cause_text, due_lines, refused_lines, related_lines, unrefused}
use Rattle.refusal_causes.specs.Sentences.{sentence}
use Rattle.refusal_causes.proofs.Meant.{says_what_holds}

abbrev said_of : Bool → List ℕ → Option (List ℕ)
said_of b s = if b then None else Some s

abbrev lines_of : Bool → (none : List ℕ) → (number many : ℕ) → ReplyBody → Figures → List ℕ
lines_of b none number many w f = if b then none else refused_lines number many w f

-- by the first reply, with what comes behind its lines, and what stands there where none is named
by_first : (none : List ℕ) (place number many : ℕ) (w : ReplyBody) (f : Figures) (behind s : List ℕ) (b : Bool) → (place == 0) ≡ b → said_of b (sentence w) ≡ Some s
    → (more : List ℕ) × (lines_of (place == 0) none number many w f ++ behind ≡ cause_text number many s ++ more)
by_first none place number many w f behind s true is e = absurd (cc)
by_first none place number many w f behind s false is e =
    let said : sentence w ≡ s = cc in (
      (parts_text (figures_parts f) ++ before_lines number) ++ behind,
      ap (λ (b : Bool). lines_of b none number many w f ++ behind) is
          ∙ append_assoc (cause_text number many (sentence w)) (parts_text (figures_parts f) ++ before_lines number) behind
          ∙ ap (λ (t : List ℕ). cause_text number many t ++ ((parts_text (figures_parts f) ++ before_lines number) ++ behind)) said,
    )

none_named : (place : ℕ) (s : List ℕ) (b : Bool) → (place == 0) ≡ b → said_of b s ≡ None → place ≡ 0
none_named place s true is e = (Decides-eqb place 0).0 is
none_named place s false is e = absurd (cc)

-- nothing stands behind the lines of a held side
unended : (more : List ℕ) → more ++ [] ≡ more
unended [] = refl
unended (c ∷ cs) = ap (λ (l : List ℕ). c ∷ l) (unended cs)

printed : (m : Market) (i : Input) (rs : List Reply) (said : Option (List ℕ)) → said_at i rs ≡ said → Prints m i rs said
printed m (Message taken t) [] None e = refl
printed m (Message taken t) [] (Some s) e = absurd (cc)
printed m (Message taken t) (r ∷ rs) None e = none_named (named_by taken.item.app r.what) (sentence r.what) (named_by taken.item.app r.what == 0) refl e
printed m (Message taken t) (r ∷ rs) (Some s) e =
    by_first (unrefused r.what) (named_by taken.item.app r.what) (number_in taken.item.app (named_by taken.item.app r.what) r.what) (many_in taken.item.app (counted_by taken.item.app r.what)) r.what (figures m.instruments taken.item.app r.what) (related_lines m.participants taken.from taken.item.app r.what) s
    (named_by taken.item.app r.what == 0) refl e
printed m (Tick t) [] None e = refl
printed m (Tick t) [] (Some s) e = absurd (cc)
printed m (Tick t) (r ∷ rs) None e = none_named (due_named r.what) (sentence r.what) (due_named r.what == 0) refl e
printed m (Tick t) (r ∷ rs) (Some s) e =
    let p = by_first (codes "not refused: no message came at this row") (due_named r.what) 0 (due_count r.what) r.what (due_figures r.what) [] s (due_named r.what == 0) refl e in
    (p.0, sym (unended (due_lines (due_named r.what) (due_count r.what) r.what)) ∙ p.1)

pub prints_what_holds : PrintsWhatHolds
prints_what_holds m h i = printed m i (answer_input m h i).replies (first_meant (meanings_at m h i)) (says_what_holds m h i)
