-- The output and the database of a venue with a trail, and why one is not served.
use Rattle.std.proofs.Common.{◌≡◌, ◌≢◌, inl, inr, ℕ, true, List, Option, length, refl, sym, ap, subst, ◌∙◌}
use Rattle.std.specs.Io.KnownBytes.{Appends}
use Rattle.sqlite_trees.specs.declared.store.Store.{Ghosts}
use Rattle.sqlite.specs.Held.{Held, state}
use Rattle.sqlite.specs.State.{State, HasCleanDisk}
use Rattle.audit_trail.specs.declared.files.Files.{Files}
use Rattle.trail_journal.specs.Journal.{Began, Recording, ShowsAll, disk}
use Rattle.venue_runtime.specs.Closing.{Closing}
use Rattle.venue_rules.specs.Market.{Market}
use Rattle.venue_rules.specs.declared.trail.TrailFault.{TrailFault}
use Rattle.venue_rules.specs.declared.trail.TrailFault.TheVariants.{Refused, OtherFiles, BadRow, BadDelay, OtherVersion, NoMemory}
use Rattle.venue_main.specs.Recorded.{HasRecorded, IsRecordingFailure, IsRefusalOf, UnlessEmitting}
use Rattle.venue_main.specs.Serve.{HasServed, UnlessWriting, closing_line}
use Rattle.venue_main.specs.declared.failure.Failure.{Failure}
use Rattle.venue_main.specs.declared.failure.Failure.TheVariants.{Stopped, Served, CommandLine, HeadsWithoutTrail, SharedHeads, SharedMetrics, Participants, Instruments, Trail as TrailRefused}
use Rattle.venue_main.specs.declared.serve.ServeFault.{ServeFault}
use Rattle.venue_main.specs.declared.serve.ServeFault.TheVariants.{Memory, Output, Trail, Network, Thread, Heads, Clock}

-- the database and the output are those of the closing, where a journal recorded its rows and showed them as they were
-- read back
pub recorded : {S : Type 0} (g : Ghosts S) (turns : ℕ) (m m' : Market) (files : Files) (old : State) (before after : Option (List ℕ)) (start kept read : Recording S) (c : Closing) (count : ℕ) (back : Held S)
    → Began g files old start → m' ≡ m → HasServed turns m' start.rows true c → length c.sessions ≡ count → kept.rows ≡ c.rows → read.rows ≡ kept.rows
    → (HasCleanDisk (disk g read) → ShowsAll g read) → (HasCleanDisk (disk g read) → Appends before after (closing_line count kept.rows)) → back ≡ read.trail.conn
    → HasRecorded g turns m files old (state g back) before after
recorded {S} g turns m m' files old before after start kept read c count back began same served counts closes reads shows written returns =
    let each : length c.sessions ≡ length m'.participants.names = served.closed.counted.sessions ∙ served.each in
    let line : closing_line count kept.rows ≡ closing_line (length m'.participants.names) c.rows =
    ap (λ (n : ℕ). closing_line n kept.rows) (sym counts ∙ each) ∙ ap (closing_line (length m'.participants.names)) closes in
    let done : HasRecorded g turns m' files old (disk g read) before after = record {
      start = start;
      began = began;
      closed = c;
      served = served;
      sessions = each;
      is_open = λ clean. (shows clean).is_open;
      shows = λ clean. (shows clean).rows ∙ reads ∙ closes;
      written = λ clean. subst (Appends before after) line (written clean);
    } in
    subst (λ (k : Held S). HasRecorded g turns m files old (state g k) before after) (sym returns) (subst (λ (n : Market). HasRecorded g turns n files old (disk g read) before after) same done)

-- a trail's fault is reported by its number, unless its disk failed
pub numbered : (fault : TrailFault) (failure : Failure) → IsRefusalOf fault failure → IsRecordingFailure failure
numbered fault failure (inr why) = subst IsRecordingFailure (sym why.1) tt
numbered Refused failure (inl why) = subst IsRecordingFailure (sym why) (Refused, refl)
numbered OtherFiles failure (inl why) = subst IsRecordingFailure (sym why) (OtherFiles, refl)
numbered (BadRow n) failure (inl why) = subst IsRecordingFailure (sym why) (BadRow n, refl)
numbered (BadDelay x) failure (inl why) = subst IsRecordingFailure (sym why) (BadDelay x, refl)
numbered OtherVersion failure (inl why) = subst IsRecordingFailure (sym why) (OtherVersion, refl)
numbered NoMemory failure (inl why) = subst IsRecordingFailure (sym why) tt

-- and before a venue ran no closing line was due
pub before_run : (fault : TrailFault) (failure : Failure) → IsRefusalOf fault failure → failure ≢ Served Output
before_run fault failure (inr why) same = let wrong = sym why.1 ∙ same in cc
before_run Refused failure (inl why) same = let wrong = sym why ∙ same in cc
before_run OtherFiles failure (inl why) same = let wrong = sym why ∙ same in cc
before_run (BadRow n) failure (inl why) same = let wrong = sym why ∙ same in cc
before_run (BadDelay x) failure (inl why) same = let wrong = sym why ∙ same in cc
before_run OtherVersion failure (inl why) same = let wrong = sym why ∙ same in cc
before_run NoMemory failure (inl why) same = let wrong = sym why ∙ same in cc

-- a fact that holds after every failure holds unless the closing line was not written
pub unless_written : (fault : ServeFault) (P : Type 0) → P → UnlessWriting fault P
unless_written Memory P p = p
unless_written Output P p = tt
unless_written Trail P p = p
unless_written (Network why) P p = p
unless_written Thread P p = p
unless_written Heads P p = p
unless_written (Clock why) P p = p

pub unless_emitted : (failure : Failure) (P : Type 0) → P → UnlessEmitting failure P
unless_emitted (Stopped fault) P p = p
unless_emitted (Served fault) P p = unless_written fault P p
unless_emitted CommandLine P p = p
unless_emitted HeadsWithoutTrail P p = p
unless_emitted SharedHeads P p = p
unless_emitted SharedMetrics P p = p
unless_emitted (Participants number) P p = p
unless_emitted (Instruments number) P p = p
unless_emitted (TrailRefused number) P p = p
