-- The questions about a day: what is printed of each, what an allocation failure may leave of it, and what it may name
-- that is not there. A kind of question has a line in each table.
use Rattle.std.specs.Prelude.{ℕ, List, Option, None, Some, if◌then◌else◌}
use Rattle.venue_rules.specs.Market.{Market}
use Rattle.day_page.specs.Printed.{EmitsPage}
use Rattle.surveillance.specs.Printed.{EmitsWatch}
use Rattle.trail_digest.specs.Trail.{Trail}
use Rattle.refusal_causes.specs.Printed.{EmitsWhy}
use Rattle.trade_reconstruction.specs.Emitted.{EmitsTrade}
use Rattle.trade_table.specs.Table.{BeginsTable, EmitsTable}
use Rattle.trail_questions.specs.declared.fault.Unknown.{Unknown}
use Rattle.trail_questions.specs.declared.question.Question.{Question}
use Rattle.trail_questions.specs.declared.question.Question.TheVariants.{Activity, Against, Answers, Book, Digest, Evidence, Evidences, Page, Rests, Table, Watch, Why}
use Rattle.trail_digest.specs.declared.head.HeadForm.{HeadForm}
use Rattle.trail_digest.specs.declared.head.HeadForm.TheVariants.{Line}
use Rattle.trail_questions.specs.Activity.{EmitsActivityOf, IsNobody, activity_head}
use Rattle.trail_questions.specs.Against.{AgreesWith, DiffersFrom, IsUnknownDesk}
use Rattle.trail_questions.specs.Answers.{BeginsNarrowed, EmitsNarrowed, IsUnknownAnswer, is_sought}
use Rattle.trail_questions.specs.Book.{EmitsBookAfter, IsUnknownBook, book_head}
use Rattle.trail_questions.specs.Headed.{Under, head_form}
use Rattle.trail_questions.specs.Digest.{EmitsDigest, IsUnknownRow}
use Rattle.trail_questions.specs.Ending.{IsNever}
use Rattle.trail_questions.specs.Evidence.{BeginsEvidences, EmitsEvidences, IsUnknownTrade}
use Rattle.trail_questions.specs.Rests.{EmitsRestsAfter, IsUnknownRests}
use Rattle.trail_questions.specs.Watch.{watch_head}
use Rattle.trail_questions.specs.Why.{IsUnknownWhy}

-- the output is the answer to the question, without the head above it
abbrev pub EmitsAnswer : Question → Market → Trail → (before after : Option (List ℕ)) → Type 0
EmitsAnswer Table m trail before after = EmitsTable m trail.rows before after
EmitsAnswer (Against desk log) m trail before after = AgreesWith desk log.now m trail.rows before after
EmitsAnswer (Activity desk form) m trail before after = EmitsActivityOf desk form m trail.rows before after
EmitsAnswer (Digest row) m trail before after = EmitsDigest trail row before after
EmitsAnswer Page m trail before after = EmitsPage m trail before after
EmitsAnswer (Watch bounds form) m trail before after = EmitsWatch form bounds m trail.rows before after
EmitsAnswer (Evidence number) m trail before after = EmitsTrade m trail.rows number before after
EmitsAnswer Evidences m trail before after = EmitsEvidences m trail before after
EmitsAnswer (Why number) m trail before after = EmitsWhy m trail.rows number before after
EmitsAnswer (Book b form) m trail before after = EmitsBookAfter b form m trail.rows before after
EmitsAnswer (Rests r form) m trail before after = EmitsRestsAfter r form m trail.rows before after
EmitsAnswer (Answers n form) m trail before after = EmitsNarrowed n form m trail before after

-- or a first part of it; of the evidence for one trade, a cause, a book, what rests, figures, a digest, a page or
-- alarms nothing is written before all is made
abbrev pub BeginsAnswer : Question → Market → Trail → (before after : Option (List ℕ)) → Type 0
BeginsAnswer Table m trail before after = BeginsTable m trail.rows before after
BeginsAnswer (Against desk log) m trail before after = ⊥
BeginsAnswer (Activity desk form) m trail before after = ⊥
BeginsAnswer (Digest row) m trail before after = ⊥
BeginsAnswer Page m trail before after = ⊥
BeginsAnswer (Watch bounds form) m trail before after = ⊥
BeginsAnswer (Evidence number) m trail before after = ⊥
BeginsAnswer Evidences m trail before after = BeginsEvidences m trail before after
BeginsAnswer (Why number) m trail before after = ⊥
BeginsAnswer (Book b form) m trail before after = ⊥
BeginsAnswer (Rests r form) m trail before after = ⊥
BeginsAnswer (Answers n form) m trail before after = BeginsNarrowed n form m trail before after

-- the output is that what was compared differs
abbrev pub DiffersAnswer : Question → Market → Trail → (before after : Option (List ℕ)) → Type 0
DiffersAnswer Table m trail before after = ⊥
DiffersAnswer (Against desk log) m trail before after = DiffersFrom desk log.now m trail.rows before after
DiffersAnswer (Activity desk form) m trail before after = ⊥
DiffersAnswer (Digest row) m trail before after = ⊥
DiffersAnswer Page m trail before after = ⊥
DiffersAnswer (Watch bounds form) m trail before after = ⊥
DiffersAnswer (Evidence number) m trail before after = ⊥
DiffersAnswer Evidences m trail before after = ⊥
DiffersAnswer (Why number) m trail before after = ⊥
DiffersAnswer (Book b form) m trail before after = ⊥
DiffersAnswer (Rests r form) m trail before after = ⊥
DiffersAnswer (Answers n form) m trail before after = ⊥

-- what the question names is not there
abbrev pub IsUnknownAsked : Question → Market → Trail → Unknown → Type 0
IsUnknownAsked Table m trail what = IsNever what
IsUnknownAsked (Against desk log) m trail what = IsUnknownDesk desk log.now m what
IsUnknownAsked (Activity desk form) m trail what = IsNobody desk m what
IsUnknownAsked (Digest row) m trail what = IsUnknownRow trail row what
IsUnknownAsked Page m trail what = IsNever what
IsUnknownAsked (Watch bounds form) m trail what = IsNever what
IsUnknownAsked (Evidence number) m trail what = IsUnknownTrade number m trail.rows what
IsUnknownAsked Evidences m trail what = IsNever what
IsUnknownAsked (Why number) m trail what = IsUnknownWhy number trail.rows what
IsUnknownAsked (Book b form) m trail what = IsUnknownBook b m trail.rows what
IsUnknownAsked (Rests r form) m trail what = IsUnknownRests r m trail.rows what
IsUnknownAsked (Answers n form) m trail what = IsUnknownAnswer n m trail.rows what

-- the head above an answer that is made whole before it is written; others have none, or write their own
abbrev pub head_of : Question → Option HeadForm
head_of (Evidence number) = Some Line
head_of (Why number) = Some Line
head_of (Against desk log) = Some Line
head_of (Activity desk form) = activity_head form
head_of (Watch bounds form) = watch_head form
head_of (Book b form) = book_head form
head_of (Rests r form) = book_head form
head_of (Answers n form) = if is_sought n then head_form form else None
head_of Table = None
head_of Evidences = None
head_of (Digest row) = None
head_of Page = None

-- the output is the answer to the question, behind the head that says of which trail it is
abbrev pub EmitsAsked : Question → Market → Trail → (before after : Option (List ℕ)) → Type 0
EmitsAsked question m trail = Under (head_of question) trail (EmitsAnswer question m trail)

abbrev pub DiffersAsked : Question → Market → Trail → (before after : Option (List ℕ)) → Type 0
DiffersAsked question m trail = Under (head_of question) trail (DiffersAnswer question m trail)

-- or a first part of it; nothing of what is made whole
abbrev pub begun_under : Option HeadForm → Type 0 → Type 0
begun_under None Begun = Begun
begun_under (Some form) Begun = ⊥

abbrev pub BeginsAsked : Question → Market → Trail → (before after : Option (List ℕ)) → Type 0
BeginsAsked question m trail before after = begun_under (head_of question) (BeginsAnswer question m trail before after)
