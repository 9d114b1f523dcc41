-- What an opened trail gives of a question is what the database stores.
use Rattle.std.proofs.Common.{◌≡◌, ◌⊎◌, inl, inr, ℕ, List, length, Option, None, Some, ap, refl, sym, subst, ◌∙◌, arith}
use Rattle.std.specs.Io.KnownBytes.{Keeps}
use Rattle.sqlite.specs.Effect.{Database}
use Rattle.sqlite.specs.State.{State, HasCleanDisk, Survives}
use Rattle.participants.specs.ParticipantFile.{ParticipantFile}
use Rattle.instruments.specs.declared.instruments.Instrument.{Instrument}
use Rattle.venue_rules.specs.Market.{Market}
use Rattle.trail_digest.specs.Trail.{Trail}
use Rattle.trail_questions.specs.Ending.{Fails, market_of}
use Rattle.trail_questions.specs.Question.{BeginsAsked, DiffersAsked, EmitsAsked, IsUnknownAsked}
use Rattle.trail_questions.specs.declared.fault.AskedFault.{AskedFault}
use Rattle.trail_questions.specs.declared.fault.AskedFault.TheVariants as asked
use Rattle.trail_questions.specs.declared.fault.Unknown.{Unknown}
use Rattle.trail_questions.specs.declared.question.Question.{Question}
use Rattle.venue_rules.specs.declared.trail.TrailFault.{TrailFault}
use Rattle.venue_rules.specs.declared.trail.TrailFault.TheVariants.{Refused, OtherFiles, BadRow, BadDelay, OtherVersion, NoMemory}
use Rattle.venue_rules.specs.declared.trail.TrailRow.{TrailRow}
use Rattle.audit_trail.specs.Open.{Opened, OpenFault}
use Rattle.audit_trail.specs.Rows.{delays_in, rows_in}
use Rattle.audit_trail.specs.declared.files.Files.{Files}
use Rattle.sef_replay.specs.declared.failure.Failure.{Failure}
use Rattle.sef_replay.specs.declared.failure.Failure.TheVariants.{Stopped, CommandLine, Trail as TrailRefused, Unknown as UnknownNamed, File, Differs}
use Rattle.sef_replay.specs.declared.failure.Stop.{Stop}
use Rattle.sef_replay.specs.declared.failure.Stop.TheVariants as stop
use Rattle.sef_replay.specs.Day.{AreKept, UnlessPrinting}
use Rattle.sef_replay.specs.Asked.{IsAskedFailureOf, IsRefusalKept, OfRows, OfTrail, content}
use Rattle.sef_replay.specs.Failures.{asked_failure, trail_failure}
use Rattle.sef_replay.specs.Stops.{StopsEmitting}

-- the market is that of the stored files and delays, and the rows are the stored ones
of_rows : (So : Market → Trail → Type 0) (files : Files) (delays : List ℕ) (kept rows : List TrailRow) (file : ParticipantFile) (instruments : List Instrument)
    → AreKept files delays file instruments → rows ≡ kept → So (market_of file instruments) (content files delays rows) → OfRows So files delays kept
of_rows So files delays kept rows file instruments are same so = record {
  market = market_of file instruments;
  kept = are;
  so = subst (λ (rs : List TrailRow). So (market_of file instruments) (content files delays rs)) same so;
}

pub emitted_kept : (question : Question) (files : Files) (delays : List ℕ) (kept rows : List TrailRow) (file : ParticipantFile) (instruments : List Instrument) (before after : Option (List ℕ))
    → AreKept files delays file instruments → rows ≡ kept → EmitsAsked question (market_of file instruments) (content files delays rows) before after
    → OfRows (λ m t. EmitsAsked question m t before after) files delays kept
emitted_kept question files delays kept rows file instruments before after are same so =
    of_rows (λ m t. EmitsAsked question m t before after) files delays kept rows file instruments are same so

-- what was lent of the trail is what it stores
pub relent : (So : Trail → Type 0) (files lent : Files) (delays more : List ℕ) (rows : List TrailRow) → lent ≡ files → more ≡ delays → So (content lent more rows) → So (content files delays rows)
relent So files lent delays more rows same kept so =
    subst (λ (f : Files). So (content f delays rows)) same (subst (λ (ds : List ℕ). So (content lent ds rows)) kept so)

-- why the question is refused
pub refused_kept : (question : Question) (files : Files) (delays : List ℕ) (kept rows : List TrailRow) (file : ParticipantFile) (instruments : List Instrument) (before after : Option (List ℕ)) (fault : AskedFault)
    → AreKept files delays file instruments → rows ≡ kept → Fails (BeginsAsked question (market_of file instruments) (content files delays rows) before after) (DiffersAsked question (market_of file instruments) (content files delays rows) before after) (IsUnknownAsked question (market_of file instruments) (content files delays rows)) before after fault
    → IsRefusalKept question before after files delays kept (asked_failure fault)
refused_kept question files delays kept rows file instruments before after asked.Memory are same why = tt
refused_kept question files delays kept rows file instruments before after asked.Output are same why = tt
refused_kept question files delays kept rows file instruments before after (asked.Unknown what) are same why =
    of_rows (λ m t. IsUnknownAsked question m t what) files delays kept rows file instruments are same why.0
refused_kept question files delays kept rows file instruments before after asked.Differs are same why =
    of_rows (λ m t. DiffersAsked question m t before after) files delays kept rows file instruments are same why

-- and what was written then
pub begun_kept : (question : Question) (files : Files) (delays : List ℕ) (kept rows : List TrailRow) (file : ParticipantFile) (instruments : List Instrument) (before after : Option (List ℕ)) (fault : AskedFault)
    → AreKept files delays file instruments → rows ≡ kept → Fails (BeginsAsked question (market_of file instruments) (content files delays rows) before after) (DiffersAsked question (market_of file instruments) (content files delays rows) before after) (IsUnknownAsked question (market_of file instruments) (content files delays rows)) before after fault
    → asked_failure fault ≡ Stopped stop.Memory → Keeps before after ⊎ OfRows (λ m t. BeginsAsked question m t before after) files delays kept
begun_kept question files delays kept rows file instruments before after asked.Memory are same (inl keeps) is = inl keeps
begun_kept question files delays kept rows file instruments before after asked.Memory are same (inr so) is =
    inr (of_rows (λ m t. BeginsAsked question m t before after) files delays kept rows file instruments are same so)
begun_kept question files delays kept rows file instruments before after asked.Output are same why is = absurd (cc)
begun_kept question files delays kept rows file instruments before after (asked.Unknown what) are same why is = absurd (cc)
begun_kept question files delays kept rows file instruments before after asked.Differs are same why is = absurd (cc)

pub unwritten_kept : (Begun Differing : Type 0) (IsUnknown : Unknown → Type 0) (before after : Option (List ℕ)) (fault : AskedFault)
    → Fails Begun Differing IsUnknown before after fault → UnlessPrinting (asked_failure fault) (Keeps before after)
unwritten_kept Begun Differing IsUnknown before after asked.Memory why = tt
unwritten_kept Begun Differing IsUnknown before after asked.Output why = tt
unwritten_kept Begun Differing IsUnknown before after (asked.Unknown what) why = why.1
unwritten_kept Begun Differing IsUnknown before after asked.Differs why = tt

-- an allocation or a write stops it, and nothing of the trail
pub asking_stops : (cause : Type 0) (fault : AskedFault) → StopsEmitting cause (asked_failure fault)
asking_stops cause asked.Memory = tt
asking_stops cause asked.Output = tt
asking_stops cause (asked.Unknown what) = tt
asking_stops cause asked.Differs = tt

-- nothing was being written where it stopped before
pub stop_unprinted : (cause : Stop) (P : Type 0) → P → UnlessPrinting (Stopped cause) P
stop_unprinted stop.Memory P p = tt
stop_unprinted stop.Output P p = tt
stop_unprinted stop.Input P p = p
stop_unprinted stop.Trail P p = p

delays_kept : (old new : State) (files : Files) (delays : List ℕ) (last_n last_moment : ℕ) → Opened None old new files delays last_n last_moment → delays ≡ delays_in old.now.trees
delays_kept old new files delays last_n last_moment o = sym o.delays_kept ∙ ap (λ (db : Database). delays_in db.trees) o.same.0.now_is

of_trail : (So : Market → Trail → Type 0) (old new : State) (files : Files) (delays : List ℕ) (last_n last_moment : ℕ) (rows : List TrailRow)
    → Opened None old new files delays last_n last_moment → rows ≡ rows_in old.now.trees → OfRows So files delays rows → OfTrail So old.now
of_trail So old new files delays last_n last_moment rows o same day = record {
  files = files;
  version = o.finds.version;
  day = subst (λ (ds : List ℕ). OfRows So files ds (rows_in old.now.trees)) (delays_kept old new files delays last_n last_moment o)
      (subst (λ (rs : List TrailRow). OfRows So files delays rs) same day);
}

-- a property of an opened trail's day is one of the database, where nothing was committed since
pub asked_of : (So : Market → Trail → Type 0) (old opened last : State) (files : Files) (delays : List ℕ) (last_n last_moment : ℕ)
    → (HasCleanDisk opened → Opened None old opened files delays last_n last_moment) → Survives opened last (λ _. ⊥)
    → OfRows So files delays (rows_in opened.now.trees) → HasCleanDisk last → OfTrail So old.now
asked_of So old opened last files delays last_n last_moment found kept day clean =
    let o : Opened None old opened files delays last_n last_moment = found (omega (arith, kept.clean, clean)) in
    of_trail So old opened files delays last_n last_moment (rows_in opened.now.trees) o (ap (λ (db : Database). rows_in db.trees) o.same.0.now_is) day

pub begun_of : (So : Market → Trail → Type 0) (Same : Type 0) (old opened last : State) (files : Files) (delays : List ℕ) (last_n last_moment : ℕ)
    → (HasCleanDisk opened → Opened None old opened files delays last_n last_moment) → Survives opened last (λ _. ⊥)
    → Same ⊎ OfRows So files delays (rows_in opened.now.trees) → HasCleanDisk last → Same ⊎ OfTrail So old.now
begun_of So Same old opened last files delays last_n last_moment found kept (inl same) clean = inl same
begun_of So Same old opened last files delays last_n last_moment found kept (inr day) clean = inr (asked_of So old opened last files delays last_n last_moment found kept day clean)

pub failure_of : (question : Question) (before after : Option (List ℕ)) (old opened last : State) (files : Files) (delays : List ℕ) (last_n last_moment : ℕ) (failure : Failure)
    → (HasCleanDisk opened → Opened None old opened files delays last_n last_moment) → Survives opened last (λ _. ⊥)
    → IsRefusalKept question before after files delays (rows_in opened.now.trees) failure → HasCleanDisk last → IsAskedFailureOf question before after old.now failure
failure_of question before after old opened last files delays last_n last_moment (Stopped cause) found kept why clean = tt
failure_of question before after old opened last files delays last_n last_moment CommandLine found kept why clean = absurd why
failure_of question before after old opened last files delays last_n last_moment (TrailRefused number) found kept why clean = absurd why
failure_of question before after old opened last files delays last_n last_moment (UnknownNamed what) found kept why clean =
    asked_of (λ m t. IsUnknownAsked question m t what) old opened last files delays last_n last_moment found kept why clean
failure_of question before after old opened last files delays last_n last_moment File found kept why clean = absurd why
failure_of question before after old opened last files delays last_n last_moment Differs found kept why clean =
    asked_of (λ m t. DiffersAsked question m t before after) old opened last files delays last_n last_moment found kept why clean

-- a fault of the database is reported by its number
pub fault_of : (question : Question) (before after : Option (List ℕ)) (db : Database) (fault : TrailFault) → OpenFault None db fault → IsAskedFailureOf question before after db (trail_failure fault)
fault_of question before after db Refused why = (Refused, why, refl)
fault_of question before after db OtherFiles why = (OtherFiles, why, refl)
fault_of question before after db (BadRow n) why = (BadRow n, why, refl)
fault_of question before after db (BadDelay x) why = (BadDelay x, why, refl)
fault_of question before after db OtherVersion why = (OtherVersion, why, refl)
fault_of question before after db NoMemory why = tt
