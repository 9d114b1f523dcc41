-- The rows of a trail under another file.
use Rattle.std.proofs.Common.{◌≡◌, ◌≢◌, ◌⊎◌, inl, inr, ℕ, Bool, List, Option, ap, sym, subst}
use Rattle.std.specs.Io.KnownBytes.{Appends, Keeps}
use Rattle.audit_trail.specs.declared.files.Files.{Files}
use Rattle.trail_comparison.specs.Comparison.{market_of}
use Rattle.trail_comparison.specs.Rules.{AreOther, IsRefused}
use Rattle.trail_comparison.specs.Under.{EmitsUnder, IsBegun}
use Rattle.trail_comparison.specs.declared.rules.Parts.{Parts}
use Rattle.trail_comparison.specs.declared.rules.RulesFault.{RulesFault}
use Rattle.trail_comparison.specs.declared.rules.RulesFault.TheVariants as fault
use Rattle.trail_digest.specs.Comparison.{Side}
use Rattle.trail_digest.specs.Head.{head_text}
use Rattle.trail_digest.specs.Trail.{Trail}
use Rattle.trail_digest.specs.declared.head.HeadForm.TheVariants.{Line}
use Rattle.venue_rules.specs.Market.{Market}
use Rattle.venue_rules.specs.declared.trail.TrailRow.{TrailRow}
use Rattle.sef_replay.specs.declared.copied.Copied.{Copied}
use Rattle.sef_replay.specs.declared.reading.ReadDay.{ReadDay}
use Rattle.sef_replay.specs.declared.under.UnderFailure.{UnderFailure}
use Rattle.sef_replay.specs.declared.under.UnderFailure.TheVariants.{OfTrail, OfFile, Differ, Memory, Output}
use Rattle.sef_replay.specs.Compared.{IsDayOver, read_side}
use Rattle.sef_replay.specs.Day.{AreKept, ReadsInstruments, ReadsParticipants}
use Rattle.sef_replay.specs.Under.{BeginsSideUnder, EmitsSideUnder, FailsSideUnder, FailsUnderFile, file_failure}

-- what was read of a trail is read by its files
kept_by : (files lent : Files) (kept delays : List ℕ) (m own : Market) → lent.participants ≡ files.participants → lent.instruments ≡ files.instruments → delays ≡ kept → own ≡ m
    → AreKept files kept m.participants m.instruments → AreKept lent delays own.participants own.instruments
kept_by files lent kept delays m own names symbols same market are = record {
  participants = subst (λ (o : Market). ReadsParticipants lent.participants o.participants) (sym market) (subst (λ (t : List ℕ). ReadsParticipants t m.participants) (sym names) are.participants);
  instruments = subst (λ (o : Market). ReadsInstruments lent.instruments delays o.instruments) (sym market)
      (subst (λ (t : List ℕ). ReadsInstruments t delays m.instruments) (sym symbols) (subst (λ (ds : List ℕ). ReadsInstruments files.instruments ds m.instruments) (sym same) are.instruments));
}

pub day_is_kept : (log db : List ℕ) (r : ReadDay) → IsDayOver log db (read_side r) → AreKept r.files r.delays.items r.day.participants r.day.instruments
day_is_kept log db r is =
    let day = is.day.day in
    kept_by is.day.files r.files _ r.delays.items day.market (market_of (read_side r)) (ap (λ (t : Trail). t.participants) day.so.1) (ap (λ (t : Trail). t.instruments) day.so.1)
    (ap (λ (t : Trail). t.delays) day.so.1) day.so.0 day.kept

-- behind the head, where A takes the rules and the rows of the trail
pub side_emitted : (same : Bool) (side : Side) (parts : Parts) (m n : Market) (rows : List TrailRow) (text : List ℕ) (before mid after : Option (List ℕ)) → m ≡ market_of side → rows ≡ side.trail.rows
    → AreOther parts text (market_of side) n → Appends before mid (head_text Line side.trail) → EmitsUnder parts same m n rows mid after → EmitsSideUnder same side text before after
side_emitted same side parts m n rows text before mid after own all of headed emits = record {
  parts = parts;
  other = n;
  of_file = of;
  mid = mid;
  headed = headed;
  emits = subst (λ (rs : List TrailRow). EmitsUnder parts same (market_of side) n rs mid after) all (subst (λ (k : Market). EmitsUnder parts same k n rows mid after) own emits);
}

pub side_begun : (side : Side) (parts : Parts) (m n : Market) (rows : List TrailRow) (text : List ℕ) (before mid after : Option (List ℕ)) → m ≡ market_of side → rows ≡ side.trail.rows
    → AreOther parts text (market_of side) n → Appends before mid (head_text Line side.trail) → IsBegun parts m n rows mid after → Keeps before after ⊎ BeginsSideUnder side text before after
side_begun side parts m n rows text before mid after own all of headed begins = inr (record {
  parts = parts;
  other = n;
  of_file = of;
  mid = mid;
  headed = headed;
  begins = subst (λ (rs : List TrailRow). IsBegun parts (market_of side) n rs mid after) all (subst (λ (k : Market). IsBegun parts k n rows mid after) own begins);
})

-- a file is refused for its fault
refused_for : (side : Side) (text : List ℕ) (before after : Option (List ℕ)) (why : RulesFault) → IsRefused text (market_of side) why → Keeps before after
    → FailsSideUnder side text before after (file_failure why)
refused_for side text before after fault.Memory refused keeps = inl keeps
refused_for side text before after (fault.NoFile one other) refused keeps = (refused, (λ is. absurd (cc)), keeps)
refused_for side text before after (fault.BadParticipants one) refused keeps = (refused, (λ is. absurd (cc)), keeps)
refused_for side text before after (fault.BadInstruments one) refused keeps = (refused, (λ is. absurd (cc)), keeps)
refused_for side text before after fault.Venue refused keeps = (refused, (λ is. absurd (cc)), keeps)
refused_for side text before after (fault.Participant k) refused keeps = (refused, (λ is. absurd (cc)), keeps)
refused_for side text before after (fault.Instrument k) refused keeps = (refused, (λ is. absurd (cc)), keeps)

pub refused_file : (side : Side) (text : List ℕ) (before after : Option (List ℕ)) (why : RulesFault) (failure : UnderFailure) → failure ≡ file_failure why → IsRefused text (market_of side) why
    → Keeps before after → FailsSideUnder side text before after failure
refused_file side text before after why failure same refused keeps =
    subst (λ (f : UnderFailure). FailsSideUnder side text before after f) (sym same) (refused_for side text before after why refused keeps)

-- what fails of a trail that was read
pub failed_under : (copied : Copied) (side : Side) (text : List ℕ) (before after : Option (List ℕ)) (failure : UnderFailure) → IsDayOver copied.log.items copied.db.items side
    → FailsSideUnder side text before after failure → FailsUnderFile copied text before after failure
failed_under copied side text before after (OfTrail failure) day fails = absurd fails
failed_under copied side text before after (OfFile why) day fails = record { side = side; day = day; fails = fails }
failed_under copied side text before after Differ day fails = record { side = side; day = day; fails = fails }
failed_under copied side text before after Memory day fails = record { side = side; day = day; fails = fails }
failed_under copied side text before after Output day fails = record { side = side; day = day; fails = fails }
