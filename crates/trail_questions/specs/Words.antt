-- Questions in the words of the command line.
use Rattle.std.specs.Prelude.{◌≡◌, ◌≢◌, ◌++◌, ℕ, ◌<◌, ◌^◌, false, List, Option, None, Some, codes, decimal, option_map, string_bytes}
use Rattle.fix_dictionary.specs.Values.{is_text}
use Rattle.trail_answers.specs.declared.scope.RowSpan.{RowSpan}
use Rattle.trail_questions.specs.declared.answers.Narrowing.{Narrowing}
use Rattle.trail_questions.specs.declared.book.BookAfter.{BookAfter}
use Rattle.trail_questions.specs.declared.fault.Unknown.{Unknown}
use Rattle.trail_questions.specs.declared.fault.Unknown.TheVariants.{Instrument, Order, Recipient, Room, Row, Sender, Trade}
use Rattle.trail_questions.specs.declared.question.Question.{Question}
use Rattle.trail_questions.specs.declared.question.Question.TheVariants as question
use Rattle.trail_questions.specs.declared.words.AskedWords.{AskedWords}
use Rattle.trail_questions.specs.declared.words.AskedWords.TheVariants.{Activity, Against, Answers, Book, Digest, Evidence, Evidences, Page, Rests, Table, Watch, Why}
use Rattle.trail_questions.specs.declared.words.BookWords.{BookWords}
use Rattle.trail_questions.specs.declared.words.NarrowingWords.{NarrowingWords}
use Rattle.trail_questions.specs.declared.rests.RestsAfter.{RestsAfter}
use Rattle.trail_questions.specs.declared.words.RestsWords.{RestsWords}
use Rattle.trail_questions.specs.Numbers.{SpellsSpan}

-- a letter and the digits of a number, or no word and no number
abbrev pub SpellsNumber : List ℕ → Option (List ℕ) → Option ℕ → Type 0
SpellsNumber letter None number = number ≡ None
SpellsNumber letter (Some word) number = (n : ℕ) × (number ≡ Some n) × (word ≡ letter ++ decimal n)

abbrev pub SpellsRows : Option (List ℕ) → Option RowSpan → Type 0
SpellsRows None rows = rows ≡ None
SpellsRows (Some word) rows = (span : RowSpan) × (rows ≡ Some span) × SpellsSpan word span

-- a word that is none of these
abbrev pub IsNoNumber : List ℕ → Option (List ℕ) → Type 0
IsNoNumber letter None = ⊥
IsNoNumber letter (Some word) = (n : ℕ) → n < 2 ^ 64 → word ≢ letter ++ decimal n

abbrev pub IsNoSpan : Option (List ℕ) → Type 0
IsNoSpan None = ⊥
IsNoSpan (Some word) = (span : RowSpan) → span.first < 2 ^ 64 → span.last < 2 ^ 64 → SpellsSpan word span → ⊥

-- a word that is no text of at most 64 bytes
abbrev pub IsNoName : Option (List ℕ) → Type 0
IsNoName None = ⊥
IsNoName (Some word) = is_text 64 word ≡ false

-- each word sets the field that it names
pub record SpellsNarrowing (w : NarrowingWords) (n : Narrowing) : Type 0 where
  pub to : n.to ≡ option_map string_bytes w.to
  pub from : n.from ≡ option_map string_bytes w.from
  pub rows : SpellsRows (option_map string_bytes w.row) n.rows
  pub order : SpellsNumber (codes "O") (option_map string_bytes w.order) n.order
  pub room : SpellsNumber (codes "R") (option_map string_bytes w.room) n.room

abbrev pub IsMisspeltNarrowing : NarrowingWords → Unknown → Type 0
IsMisspeltNarrowing w Recipient = IsNoName (option_map string_bytes w.to)
IsMisspeltNarrowing w Sender = IsNoName (option_map string_bytes w.from)
IsMisspeltNarrowing w Row = IsNoSpan (option_map string_bytes w.row)
IsMisspeltNarrowing w Order = IsNoNumber (codes "O") (option_map string_bytes w.order)
IsMisspeltNarrowing w Room = IsNoNumber (codes "R") (option_map string_bytes w.room)
IsMisspeltNarrowing w _ = ⊥

pub record SpellsBook (w : BookWords) (b : BookAfter) : Type 0 where
  pub symbol : b.symbol ≡ string_bytes w.symbol
  pub row : SpellsNumber (codes "") (option_map string_bytes w.row) b.row

abbrev pub IsMisspeltBook : BookWords → Unknown → Type 0
IsMisspeltBook w Instrument = IsNoName (Some (string_bytes w.symbol))
IsMisspeltBook w Row = IsNoNumber (codes "") (option_map string_bytes w.row)
IsMisspeltBook w _ = ⊥

pub record SpellsRests (w : RestsWords) (r : RestsAfter) : Type 0 where
  pub to : r.to ≡ option_map string_bytes w.to
  pub row : SpellsNumber (codes "") (option_map string_bytes w.row) r.row

abbrev pub IsMisspeltRests : RestsWords → Unknown → Type 0
IsMisspeltRests w Recipient = IsNoName (option_map string_bytes w.to)
IsMisspeltRests w Row = IsNoNumber (codes "") (option_map string_bytes w.row)
IsMisspeltRests w _ = ⊥

-- how this log of the desk agrees
abbrev pub IsAgainst : (desk log : List ℕ) → Question → Type 0
IsAgainst desk log (question.Against d l) = (d ≡ desk) × (l.now ≡ log)
IsAgainst desk log _ = ⊥

-- the words ask this question
abbrev pub Spells : AskedWords → Question → Type 0
Spells Table q = q ≡ question.Table
Spells Page q = q ≡ question.Page
Spells (Watch bounds form) q = q ≡ question.Watch bounds form
Spells (Against desk log) q = IsAgainst (string_bytes desk) log.items q
Spells (Activity desk form) q = (name : List ℕ) × (q ≡ question.Activity name form) × (name ≡ string_bytes desk)
Spells (Digest word) q = (row : Option ℕ) × (q ≡ question.Digest row) × SpellsNumber (codes "") (option_map string_bytes word) row
Spells (Evidence word) q = (n : ℕ) × (q ≡ question.Evidence n) × (string_bytes word ≡ codes "T" ++ decimal n)
Spells Evidences q = q ≡ question.Evidences
Spells (Why word) q = (n : ℕ) × (q ≡ question.Why n) × (string_bytes word ≡ decimal n)
Spells (Book w form) q = (b : BookAfter) × (q ≡ question.Book b form) × SpellsBook w b
Spells (Rests w form) q = (r : RestsAfter) × (q ≡ question.Rests r form) × SpellsRests w r
Spells (Answers w form) q = (n : Narrowing) × (q ≡ question.Answers n form) × SpellsNarrowing w n

-- and ask none, since the word for this has not its form
abbrev pub IsMisspelt : AskedWords → Unknown → Type 0
IsMisspelt Table what = ⊥
IsMisspelt Page what = ⊥
IsMisspelt (Watch bounds form) what = ⊥
IsMisspelt (Against desk log) Recipient = IsNoName (Some (string_bytes desk))
IsMisspelt (Against desk log) _ = ⊥
IsMisspelt (Activity desk form) Recipient = IsNoName (Some (string_bytes desk))
IsMisspelt (Activity desk form) _ = ⊥
IsMisspelt (Digest word) Row = IsNoNumber (codes "") (option_map string_bytes word)
IsMisspelt (Digest word) _ = ⊥
IsMisspelt (Evidence word) Trade = IsNoNumber (codes "T") (Some (string_bytes word))
IsMisspelt (Evidence word) _ = ⊥
IsMisspelt Evidences what = ⊥
IsMisspelt (Why word) Row = IsNoNumber (codes "") (Some (string_bytes word))
IsMisspelt (Why word) _ = ⊥
IsMisspelt (Book w form) what = IsMisspeltBook w what
IsMisspelt (Rests w form) what = IsMisspeltRests w what
IsMisspelt (Answers w form) what = IsMisspeltNarrowing w what
