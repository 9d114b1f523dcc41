-- The answer to a question about the day of a database that is a trail.
use Rattle.std.specs.Prelude.{◌≡◌, ℕ, List, Option, None, ⊤}
use Rattle.venue_rules.specs.Market.{Market}
use Rattle.venue_rules.specs.declared.trail.TrailFault.{TrailFault}
use Rattle.venue_rules.specs.declared.trail.TrailRow.{TrailRow}
use Rattle.sqlite.specs.Effect.{Database}
use Rattle.trail_digest.specs.Trail.{Trail}
use Rattle.trail_questions.specs.declared.fault.Unknown.{Unknown}
use Rattle.trail_questions.specs.declared.question.Question.{Question}
use Rattle.trail_questions.specs.Question.{BeginsAsked, DiffersAsked, EmitsAsked, IsUnknownAsked}
use Rattle.audit_trail.specs.Open.{IsVersionThree, OpenFault}
use Rattle.audit_trail.specs.Rows.{delays_in, rows_in}
use Rattle.audit_trail.specs.declared.files.Files.{Files}
use Rattle.sef_replay.specs.declared.failure.Failure.{Failure}
use Rattle.sef_replay.specs.declared.failure.Failure.TheVariants.{Stopped, CommandLine, Trail as TrailRefused, Unknown as UnknownNamed, File, Differs}
use Rattle.sef_replay.specs.Day.{AreKept}
use Rattle.sef_replay.specs.Failures.{trail_failure}

-- the content of a trail of these files, delays and rows
abbrev pub content : Files → List ℕ → List TrailRow → Trail
content files delays rows = record { participants = files.participants; instruments = files.instruments; delays = delays; rows = rows }

-- a property of the market by these files and delays, and of the content of such a trail
pub record OfRows (So : Market → Trail → Type 0) (files : Files) (delays : List ℕ) (rows : List TrailRow) : Type 0 where
  pub market : Market
  pub kept : AreKept files delays market.participants market.instruments
  pub so : So market (content files delays rows)

-- the database is a trail of files, and has the property for its delays and its rows, by number
pub record OfTrail (So : Market → Trail → Type 0) (db : Database) : Type 0 where
  pub files : Files
  pub version : IsVersionThree files db
  pub day : OfRows So files (delays_in db.trees) (rows_in db.trees)

abbrev pub EmitsAskedOf : Question → Database → (before after : Option (List ℕ)) → Type 0
EmitsAskedOf question db before after = OfTrail (λ m trail. EmitsAsked question m trail before after) db

abbrev pub BeginsAskedOf : Question → Database → (before after : Option (List ℕ)) → Type 0
BeginsAskedOf question db before after = OfTrail (λ m trail. BeginsAsked question m trail before after) db

-- why the question is not answered, or that what was compared differs, as the output says
abbrev pub IsRefusalKept : Question → (before after : Option (List ℕ)) → Files → List ℕ → List TrailRow → Failure → Type 0
IsRefusalKept question before after files delays rows (Stopped cause) = ⊤
IsRefusalKept question before after files delays rows CommandLine = ⊥
IsRefusalKept question before after files delays rows (TrailRefused number) = ⊥
IsRefusalKept question before after files delays rows (UnknownNamed what) = OfRows (λ m trail. IsUnknownAsked question m trail what) files delays rows
IsRefusalKept question before after files delays rows File = ⊥
IsRefusalKept question before after files delays rows Differs = OfRows (λ m trail. DiffersAsked question m trail before after) files delays rows

-- the program ends so for a reason: a number is that of a fault of the database as a trail, what is unknown is not
-- there, what is said to differ does, and the command line is not at fault; `StopsAfter` has the causes of a stop
abbrev pub IsAskedFailureOf : Question → (before after : Option (List ℕ)) → Database → Failure → Type 0
IsAskedFailureOf question before after db (Stopped cause) = ⊤
IsAskedFailureOf question before after db CommandLine = ⊥
IsAskedFailureOf question before after db (TrailRefused n) = (fault : TrailFault) × OpenFault None db fault × (trail_failure fault ≡ TrailRefused n)
IsAskedFailureOf question before after db (UnknownNamed what) = OfTrail (λ m trail. IsUnknownAsked question m trail what) db
IsAskedFailureOf question before after db File = ⊥
IsAskedFailureOf question before after db Differs = OfTrail (λ m trail. DiffersAsked question m trail before after) db
