-- The line on a text.
use Rattle.std.proofs.Common.{Result, Ok, Err, IfOk, ◌≡◌, inl, inr, sym, ap, ◌∙◌, ℕ, List, Option, Some, None, IfSome, IsUtf8}
use Rattle.toml.specs.Data.{Data, Members, table}
use Rattle.toml.specs.Parse.{parse_document}
use Rattle.file_diagnosis.specs.declared.cause.Cause.{Cause}
use Rattle.file_diagnosis.specs.Line.{IsLineOn, line_of}

-- the line on the cause of a document
pub on_document : {X : Type 0} (bytes : X → List ℕ) (causes : Data → Option Cause) (text : List ℕ) (document : Members) (d : Data) (cause : Option Cause) (r : Option X) → d ≡ table document → IsUtf8 text → parse_document text ≡ Some document → cause ≡ causes d
    → IfSome r (λ line. (c : Cause) × (cause ≡ Some c) × (bytes line ≡ line_of d c)) → IfSome r (λ line. IsLineOn causes text (bytes line))
on_document bytes causes text document d cause None same encoded parsed found h = tt
on_document bytes causes text document d cause (Some line) same encoded parsed found h =
    inr (document, h.0, encoded, parsed, sym (ap causes same) ∙ (sym found ∙ h.1), h.2 ∙ ap (λ x. line_of x h.0) same)

-- the line on a text that is no document
pub on_text : {X : Type 0} (bytes : X → List ℕ) (causes : Data → Option Cause) (text : List ℕ) (r : Option X) (Memory : Type 0) → (¬ Memory → IsUtf8 text → parse_document text ≡ None) → IfSome r (λ line. ¬ Memory) → IfSome r (λ line. IsLineOn causes text (bytes line))
on_text bytes causes text None Memory refused h = tt
on_text bytes causes text (Some line) Memory refused h = inl (refused h)

-- a text that was printed, and the same text by its definition
pub printed_as : {X E : Type 0} (bytes : X → List ℕ) (r : Result X E) (x y : List ℕ) → x ≡ y → IfOk r (λ s. bytes s ≡ x) → IfOk r (λ s. bytes s ≡ y)
printed_as bytes (Ok s) x y same h = h ∙ same
printed_as bytes (Err e) x y same h = tt
