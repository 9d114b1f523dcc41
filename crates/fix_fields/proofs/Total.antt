-- Every body is a list of fields, or has a first fault.
use Rattle.std.proofs.Common.{◌≡◌, ◌≢◌, ℕ, zero, suc, ◌<◌, ◌≤◌, ◌⊎◌, inl, inr, List, [], ◌∷◌, ◌++◌, length, decimal, Bool, true, false, Result, Ok, Err, refl, sym, ap, subst, ◌∙◌, ⊎_elim, arith, append_assoc}
use Rattle.std.specs.Prelude.{MatchResult, slice_index}
use Rattle.std.specs.Char.{is_ascii_digit}
use Rattle.std.specs.List.{list_all}
use Rattle.std.specs.Str.Parse.{digits_value}
use Rattle.std.proofs.lemmas.Bool.{cases_lt, cases_order}
use Rattle.fix_fields.specs.Cut.{Lacks}
use Rattle.fix_fields.specs.Fields.{Entry, IsTagText, IsField, AreFields, HasBadTag, field_text, fields_text}
use Rattle.fix_fields.specs.Faults.{PieceFault, BodyFault}
use Rattle.fix_fields.specs.declared.fields.FieldFault.{FieldFault}
use Rattle.fix_fields.specs.declared.fields.FieldFault.TheVariants.{BadTag, NoValue, NoMemory}
use Rattle.fix_fields.proofs.CutLemmas.{same_cut, not_lacks, Lacks-behind}
use Rattle.fix_fields.proofs.FieldLemmas.{field_text-shortens}
use Rattle.fix_fields.proofs.TagLemmas.{Lacks-tag, IsTag-value, decimal-tag, not_tag}

-- a text that is cut at the first place of a byte
record Cut (byte : ℕ) (text : List ℕ) : Type 0 where
  front : List ℕ
  after : List ℕ
  lacks : Lacks byte front
  whole : text ≡ front ++ byte ∷ after

cut_more : (byte c : ℕ) (cs : List ℕ) → c ≢ byte → Cut byte cs → Cut byte (c ∷ cs)
cut_more byte c cs other cut = record { front = c ∷ cut.front; after = cut.after; lacks = (other, cut.lacks); whole = ap (λ (l : List ℕ). c ∷ l) cut.whole }

cut_here : (byte c : ℕ) (cs : List ℕ) → c ≡ byte → Cut byte (c ∷ cs)
cut_here byte c cs is = record { front = []; after = cs; lacks = tt; whole = ap (λ (b : ℕ). b ∷ cs) is }

differs : (a b : ℕ) → (a < b) ⊎ (b < a) → a ≢ b
differs a b (inl l) e = absurd (omega arith)
differs a b (inr l) e = absurd (omega arith)

lacks_or_cut : (byte : ℕ) (text : List ℕ) → Lacks byte text ⊎ Cut byte text
lacks_or_cut byte [] = inl tt
lacks_or_cut byte (c ∷ cs) = ⊎_elim
    (λ (is : c ≡ byte). inr (cut_here byte c cs is))
    (λ (o : (c < byte) ⊎ (byte < c)). ⊎_elim
    (λ (h : Lacks byte cs). inl (differs c byte o, h))
    (λ (h : Cut byte cs). inr (cut_more byte c cs (differs c byte o) h))
    (lacks_or_cut byte cs))
    (cases_order c byte)

true_or_not : (b : Bool) → (b ≡ true) ⊎ (b ≡ true → ⊥)
true_or_not true = inl refl
true_or_not false = inr (λ e. cc)

-- whether a text is that of a tag is decidable
tag_or_not : (text : List ℕ) → IsTagText text ⊎ (IsTagText text → ⊥)
tag_or_not text = ⊎_elim
    (λ (some : 0 < length text). ⊎_elim
    (λ (long : 9 < length text). inr (λ h. let short = h.short in absurd (omega arith)))
    (λ (short : length text ≤ 9). ⊎_elim
    (λ (is_zero : slice_index text 0 ≡ 48). inr (λ h. h.first is_zero))
    (λ (o : (slice_index text 0 < 48) ⊎ (48 < slice_index text 0)). ⊎_elim
    (λ (digits : list_all is_ascii_digit text ≡ true). inl (record { some = some; short = short; first = differs (slice_index text 0) 48 o; digits = digits }))
    (λ (refused : list_all is_ascii_digit text ≡ true → ⊥). inr (λ h. refused h.digits))
    (true_or_not (list_all is_ascii_digit text)))
    (cases_order (slice_index text 0) 48))
    (cases_lt 9 (length text)))
    (λ (none : length text ≤ 0). inr (λ h. let some = h.some in absurd (omega arith)))
    (cases_lt 0 (length text))

-- a piece is a field, or has a fault

record IsPiece (piece : List ℕ) : Type 0 where
  field : Entry
  is_field : IsField field
  whole : piece ≡ decimal field.0 ++ 61 ∷ field.1

record IsBadPiece (piece : List ℕ) : Type 0 where
  fault : FieldFault
  real : fault ≢ NoMemory
  is_fault : PieceFault piece fault

bad_tag : (piece : List ℕ) → HasBadTag piece → IsBadPiece piece
bad_tag piece h = record { fault = BadTag; real = λ e. cc; is_fault = h }

valued : (piece name value : List ℕ) → Lacks 1 piece → IsTagText name → piece ≡ name ++ 61 ∷ value → IsPiece piece ⊎ IsBadPiece piece
valued piece name [] lacks tag whole =
    inr (record {
      fault = NoValue (digits_value 10 name);
      real = λ e. cc;
      is_fault = (IsTag-value name tag, whole ∙ ap (λ (l : List ℕ). l ++ 61 ∷ []) (sym (decimal-tag name tag)));
    })
valued piece name (c ∷ cs) lacks tag whole =
    inl (record {
      field = (digits_value 10 name, c ∷ cs);
      is_field = (IsTag-value name tag, record { some = omega arith; one_piece = Lacks-behind 1 61 name (c ∷ cs) (subst (λ (l : List ℕ). Lacks 1 l) whole lacks) });
      whole = whole ∙ ap (λ (l : List ℕ). l ++ 61 ∷ c ∷ cs) (sym (decimal-tag name tag));
    })

piece_read : (piece : List ℕ) → Lacks 1 piece → IsPiece piece ⊎ IsBadPiece piece
piece_read piece lacks = ⊎_elim
    (λ (none : Lacks 61 piece). inr (bad_tag piece (λ tag value h e. not_lacks 61 (decimal tag) value (subst (λ (l : List ℕ). Lacks 61 l) e none))))
    (λ (cut : Cut 61 piece). ⊎_elim
    (λ (tag : IsTagText cut.front). valued piece cut.front cut.after lacks tag cut.whole)
    (λ (refused : IsTagText cut.front → ⊥). inr (bad_tag piece (λ tag value h e.
    not_tag cut.front refused tag h (same_cut 61 cut.front cut.after (decimal tag) value cut.lacks (Lacks-tag tag h) (sym cut.whole ∙ e)).0)))
    (tag_or_not cut.front))
    (lacks_or_cut 61 piece)

-- a body

abbrev pub IsRead : List ℕ → Result (List Entry) FieldFault → Type 0
IsRead body read = MatchResult read
    (λ fields. AreFields fields × (body ≡ fields_text fields))
    (λ fault. (fault ≢ NoMemory) × BodyFault body fault)

abbrev Reading : List ℕ → Type 0
Reading body = (read : Result (List Entry) FieldFault) × IsRead body read

unended : (c : ℕ) (cs : List ℕ) → Lacks 1 (c ∷ cs) → Reading (c ∷ cs)
unended c cs lacks = (Err BadTag, (λ e. cc, ([], c ∷ cs, tt, refl, inr (record { some = omega arith; unended = lacks }))))

-- the first piece has the fault
fault_in_front : (fault : FieldFault) (body piece after : List ℕ) → fault ≢ NoMemory → body ≡ piece ++ 1 ∷ after → Lacks 1 piece → PieceFault piece fault → BodyFault body fault
fault_in_front BadTag body piece after real whole lacks h = ([], body, tt, refl, inl (piece, after, whole, lacks, h))
fault_in_front (NoValue tag) body piece after real whole lacks h = ([], body, tt, refl, (piece, after, whole, lacks, h))
fault_in_front NoMemory body piece after real whole lacks h = absurd (real refl)

one_more : (f : Entry) (fields : List Entry) (after rest : List ℕ) → after ≡ fields_text fields ++ rest → field_text f.0 f.1 ++ after ≡ fields_text (f ∷ fields) ++ rest
one_more f fields after rest e = ap (λ (l : List ℕ). field_text f.0 f.1 ++ l) e ∙ sym (append_assoc (field_text f.0 f.1) (fields_text fields) rest)

-- the fault comes after a field
fault_behind : (fault : FieldFault) (f : Entry) (body after : List ℕ) → fault ≢ NoMemory → IsField f → body ≡ field_text f.0 f.1 ++ after → BodyFault after fault → BodyFault body fault
fault_behind BadTag f body after real is whole h = (f ∷ h.0, h.1, (is, h.2), whole ∙ one_more f h.0 after h.1 h.3, h.4)
fault_behind (NoValue tag) f body after real is whole h = (f ∷ h.0, h.1, (is, h.2), whole ∙ one_more f h.0 after h.1 h.3, h.4)
fault_behind NoMemory f body after real is whole h = absurd (real refl)

behind_field : (f : Entry) (body after : List ℕ) → IsField f → body ≡ field_text f.0 f.1 ++ after → (read : Result (List Entry) FieldFault) → IsRead after read → Reading body
behind_field f body after is whole (Ok fields) h = (Ok (f ∷ fields), ((is, h.0), whole ∙ ap (λ (l : List ℕ). field_text f.0 f.1 ++ l) h.1))
behind_field f body after is whole (Err fault) h = (Err fault, (h.0, fault_behind fault f body after h.0 is whole h.1))

ended_field : (f : Entry) (after : List ℕ) → (decimal f.0 ++ 61 ∷ f.1) ++ 1 ∷ after ≡ field_text f.0 f.1 ++ after
ended_field f after =
    append_assoc (decimal f.0) (61 ∷ f.1) (1 ∷ after)
    ∙ ap (λ (l : List ℕ). decimal f.0 ++ 61 ∷ l) (sym (append_assoc f.1 (1 ∷ []) after))
    ∙ sym (append_assoc (decimal f.0) (61 ∷ (f.1 ++ 1 ∷ [])) after)

starts_with : (body : List ℕ) (cut : Cut 1 body) (good : IsPiece cut.front) → body ≡ field_text good.field.0 good.field.1 ++ cut.after
starts_with body cut good = cut.whole ∙ ap (λ (l : List ℕ). l ++ 1 ∷ cut.after) good.whole ∙ ended_field good.field cut.after

shorter : (f : Entry) (body after : List ℕ) → body ≡ field_text f.0 f.1 ++ after → length after < length body
shorter f body after whole = omega (arith, field_text-shortens f.0 f.1 after, ap length whole)

read_within : (most : ℕ) (body : List ℕ) → length body ≤ most → Reading body
read_within most [] le = (Ok [], (tt, refl))
read_within zero (c ∷ cs) le = absurd (omega arith)
read_within (suc most) (c ∷ cs) le = ⊎_elim
    (λ (lacks : Lacks 1 (c ∷ cs)). unended c cs lacks)
    (λ (cut : Cut 1 (c ∷ cs)). ⊎_elim
    (λ (good : IsPiece cut.front).
    let whole = starts_with (c ∷ cs) cut good in
    let rest = read_within most cut.after (omega (arith, shorter good.field (c ∷ cs) cut.after whole)) in
    behind_field good.field (c ∷ cs) cut.after good.is_field whole rest.0 rest.1)
    (λ (bad : IsBadPiece cut.front). (Err bad.fault, (bad.real, fault_in_front bad.fault (c ∷ cs) cut.front cut.after bad.real cut.whole cut.lacks bad.is_fault)))
    (piece_read cut.front cut.lacks))
    (lacks_or_cut 1 (c ∷ cs))

pub some_reading : (body : List ℕ) → Reading body
some_reading body = read_within (length body) body (omega arith)
