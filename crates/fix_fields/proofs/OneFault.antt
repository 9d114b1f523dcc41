-- A body that is no list of fields has one first fault.
use Rattle.std.proofs.Common.{◌≡◌, ◌≢◌, ℕ, List, [], ◌∷◌, ◌++◌, length, decimal, refl, sym, ap, subst, ◌∙◌, arith, append_assoc, inl, inr}
use Rattle.std.proofs.lemmas.Fmt.{decimal_injective, decimal_is_IsNumeral}
use Rattle.fix_fields.specs.Cut.{Lacks}
use Rattle.fix_fields.specs.Fields.{Entry, IsTag, IsField, AreFields, IsUnended, StopsAt, field_text, fields_text}
use Rattle.fix_fields.specs.Faults.{FrontFault, BodyFault}
use Rattle.fix_fields.specs.declared.fields.FieldFault.{FieldFault}
use Rattle.fix_fields.specs.declared.fields.FieldFault.TheVariants.{BadTag, NoValue, NoMemory}
use Rattle.fix_fields.proofs.CutLemmas.{same_cut, not_lacks}
use Rattle.fix_fields.proofs.PrintLemmas.{Lacks-digits}
use Rattle.fix_fields.proofs.TagLemmas.{Lacks-tag}
use Rattle.fix_fields.proofs.OneList.{same_first}

Lacks-append : (byte : ℕ) (xs ys : List ℕ) → Lacks byte xs → Lacks byte ys → Lacks byte (xs ++ ys)
Lacks-append byte [] ys h k = k
Lacks-append byte (x ∷ xs) ys h k = (h.0, Lacks-append byte xs ys h.1 k)

-- a field without its end
abbrev piece_of : Entry → List ℕ
piece_of f = decimal f.0 ++ 61 ∷ f.1

piece_lacks : (f : Entry) → IsField f → Lacks 1 (piece_of f)
piece_lacks f h =
    let tag = h.0 in
    let numeral = decimal_is_IsNumeral f.0 (omega (arith, tag.high)) in
    Lacks-append 1 (decimal f.0) (61 ∷ f.1) (Lacks-digits 1 (decimal f.0) (omega arith) numeral.0.1) ((λ e. absurd (omega arith)), h.1.one_piece)

piece_text : (f : Entry) (rest : List ℕ) → field_text f.0 f.1 ++ rest ≡ piece_of f ++ 1 ∷ rest
piece_text f rest =
    append_assoc (decimal f.0) (61 ∷ (f.1 ++ 1 ∷ [])) rest
    ∙ ap (λ (l : List ℕ). decimal f.0 ++ 61 ∷ l) (append_assoc f.1 (1 ∷ []) rest)
    ∙ sym (append_assoc (decimal f.0) (61 ∷ f.1) (1 ∷ rest))

-- the piece that a text begins with, where it begins with a field
same_piece : (f : Entry) (rest text piece after : List ℕ) → IsField f → text ≡ field_text f.0 f.1 ++ rest → text ≡ piece ++ 1 ∷ after → Lacks 1 piece → piece ≡ piece_of f
same_piece f rest text piece after h e cut lacks =
    (same_cut 1 piece after (piece_of f) rest lacks (piece_lacks f h) (sym cut ∙ e ∙ piece_text f rest)).0

ended : (f : Entry) (rest text : List ℕ) → text ≡ field_text f.0 f.1 ++ rest → IsUnended text → ⊥
ended f rest text e h = not_lacks 1 (piece_of f) rest (subst (λ (l : List ℕ). Lacks 1 l) (e ∙ piece_text f rest) h.unended)

no_empty : (f : Entry) (tag : ℕ) → IsField f → IsTag tag → decimal tag ++ 61 ∷ [] ≡ piece_of f → ⊥
no_empty f tag h is e =
    let value = (same_cut 61 (decimal tag) [] (decimal f.0) f.1 (Lacks-tag tag is) (Lacks-tag f.0 h.0) e).1 in
    let none : length f.1 ≡ 0 = ap length (sym value) in
    absurd (omega (arith, h.1.some))

-- a text that begins with a field has no fault in front
pub no_front_fault : (f : Entry) (rest text : List ℕ) (fault : FieldFault) → IsField f → text ≡ field_text f.0 f.1 ++ rest → FrontFault text fault → ⊥
no_front_fault f rest text BadTag h e (inl bad) = bad.4 f.0 f.1 h.0 (same_piece f rest text bad.0 bad.1 h e bad.2 bad.3)
no_front_fault f rest text BadTag h e (inr unended) = ended f rest text e unended
no_front_fault f rest text (NoValue tag) h e bad = no_empty f tag h bad.4.0 (sym bad.4.1 ∙ same_piece f rest text bad.0 bad.1 h e bad.2 bad.3)
no_front_fault f rest text NoMemory h e bad = bad

-- the rest at which fields stop is unique
same_stop : (fs gs : List Entry) (r s : List ℕ) (fault other : FieldFault) → AreFields fs → AreFields gs → fields_text fs ++ r ≡ fields_text gs ++ s
    → FrontFault r fault → FrontFault s other → r ≡ s
same_stop [] [] r s fault other h k e a b = e
same_stop [] (g ∷ gs) r s fault other h k e a b =
    absurd (no_front_fault g (fields_text gs ++ s) r fault k.0 (e ∙ append_assoc (field_text g.0 g.1) (fields_text gs) s) a)
same_stop (f ∷ fs) [] r s fault other h k e a b =
    absurd (no_front_fault f (fields_text fs ++ r) s other h.0 (sym e ∙ append_assoc (field_text f.0 f.1) (fields_text fs) r) b)
same_stop (f ∷ fs) (g ∷ gs) r s fault other h k e a b =
    let first = same_first f g (fields_text fs ++ r) (fields_text gs ++ s) h.0 k.0 (sym (append_assoc (field_text f.0 f.1) (fields_text fs) r) ∙ e ∙ append_assoc (field_text g.0 g.1) (fields_text gs) s) in
    same_stop fs gs r s fault other h.1 k.1 first.2 a b

cut_piece : (piece after other more text : List ℕ) → text ≡ piece ++ 1 ∷ after → Lacks 1 piece → text ≡ other ++ 1 ∷ more → Lacks 1 other → piece ≡ other
cut_piece piece after other more text e h d k = (same_cut 1 piece after other more h k (sym e ∙ d)).0

not_unended : (piece after text : List ℕ) → text ≡ piece ++ 1 ∷ after → IsUnended text → ⊥
not_unended piece after text e h = not_lacks 1 piece after (subst (λ (l : List ℕ). Lacks 1 l) e h.unended)

bad_and_empty : (text : List ℕ) (tag : ℕ) → FrontFault text BadTag → FrontFault text (NoValue tag) → ⊥
bad_and_empty text tag (inl bad) empty = bad.4 tag [] empty.4.0 (cut_piece bad.0 bad.1 empty.0 empty.1 text bad.2 bad.3 empty.2 empty.3 ∙ empty.4.1)
bad_and_empty text tag (inr unended) empty = not_unended empty.0 empty.1 text empty.2 unended

-- a text has one fault in front
same_front : (text : List ℕ) (fault other : FieldFault) → FrontFault text fault → FrontFault text other → fault ≡ other
same_front text BadTag BadTag a b = refl
same_front text BadTag (NoValue tag) a b = absurd (bad_and_empty text tag a b)
same_front text (NoValue tag) BadTag a b = absurd (bad_and_empty text tag b a)
same_front text (NoValue tag) (NoValue other) a b =
    let piece = cut_piece a.0 a.1 b.0 b.1 text a.2 a.3 b.2 b.3 in
    let text_of_tag = (same_cut 61 (decimal tag) [] (decimal other) [] (Lacks-tag tag a.4.0) (Lacks-tag other b.4.0) (sym a.4.1 ∙ piece ∙ b.4.1)).0 in
    ap (λ (n : ℕ). NoValue n) (decimal_injective tag other (omega (arith, a.4.0.high)) (omega (arith, b.4.0.high)) text_of_tag)
same_front text BadTag NoMemory a b = absurd b
same_front text (NoValue tag) NoMemory a b = absurd b
same_front text NoMemory other a b = absurd a

stops : (body : List ℕ) (fault : FieldFault) → fault ≢ NoMemory → BodyFault body fault → StopsAt (λ rest. FrontFault rest fault) body
stops body BadTag h b = b
stops body (NoValue tag) h b = b
stops body NoMemory h b = absurd (h refl)

pub one_fault : (body : List ℕ) (fault other : FieldFault) → fault ≢ NoMemory → other ≢ NoMemory → BodyFault body fault → BodyFault body other → fault ≡ other
one_fault body fault other h k a b =
    let x = stops body fault h a in
    let y = stops body other k b in
    let same = same_stop x.0 y.0 x.1 y.1 fault other x.2 y.2 (sym x.3 ∙ y.3) x.4 y.4 in
    same_front y.1 fault other (subst (λ (l : List ℕ). FrontFault l fault) same x.4) y.4

no_end : (piece after : List ℕ) → piece ++ 1 ∷ after ≡ [] → ⊥
no_end [] after e = absurd (cc)
no_end (c ∷ cs) after e = absurd (cc)

some_rest : (text : List ℕ) (fault : FieldFault) → FrontFault text fault → text ≡ [] → ⊥
some_rest text BadTag (inl bad) e = no_end bad.0 bad.1 (sym bad.2 ∙ e)
some_rest text BadTag (inr unended) e = let none : length text ≡ 0 = ap length e in absurd (omega (arith, unended.some))
some_rest text (NoValue tag) bad e = no_end bad.0 bad.1 (sym bad.2 ∙ e)
some_rest text NoMemory bad e = bad

no_text : (g : Entry) (rest : List ℕ) → field_text g.0 g.1 ++ rest ≡ [] → ⊥
no_text g rest e = no_end (piece_of g) rest (sym (piece_text g rest) ∙ e)

all_fields : (fs gs : List Entry) (r : List ℕ) (fault : FieldFault) → AreFields fs → AreFields gs → fields_text fs ≡ fields_text gs ++ r → FrontFault r fault → ⊥
all_fields [] [] r fault h k e b = some_rest r fault b (sym e)
all_fields [] (g ∷ gs) r fault h k e b = no_text g (fields_text gs ++ r) (sym (e ∙ append_assoc (field_text g.0 g.1) (fields_text gs) r))
all_fields (f ∷ fs) [] r fault h k e b = no_front_fault f (fields_text fs) r fault h.0 (sym e) b
all_fields (f ∷ fs) (g ∷ gs) r fault h k e b =
    let first = same_first f g (fields_text fs) (fields_text gs ++ r) h.0 k.0 (e ∙ append_assoc (field_text g.0 g.1) (fields_text gs) r) in
    all_fields fs gs r fault h.1 k.1 first.2 b

pub no_fault : (fields : List Entry) (fault : FieldFault) → fault ≢ NoMemory → AreFields fields → BodyFault (fields_text fields) fault → ⊥
no_fault fields fault h are b =
    let x = stops (fields_text fields) fault h b in
    all_fields fields x.0 x.1 fault are x.2 x.3 x.4
