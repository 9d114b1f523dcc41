-- Why the program ends as it does, and what was written where nothing was printed.
use Rattle.std.proofs.Common.{None, refl}
use Rattle.sqlite.specs.Effect.{Database}
use Rattle.venue_rules.specs.declared.trail.TrailFault.{TrailFault}
use Rattle.venue_rules.specs.declared.trail.TrailFault.TheVariants.{Refused, OtherFiles, BadRow, BadDelay, OtherVersion, NoMemory}
use Rattle.audit_trail.specs.Open.{OpenFault}
use Rattle.sef_replay.specs.Day.{IsFailureOf, UnlessPrinting}
use Rattle.sef_replay.specs.Failures.{trail_failure}

-- a fault of the database is reported by its number
pub fault_emitted : (db : Database) (fault : TrailFault) → OpenFault None db fault → IsFailureOf db (trail_failure fault)
fault_emitted db Refused why = (Refused, why, refl)
fault_emitted db OtherFiles why = (OtherFiles, why, refl)
fault_emitted db (BadRow n) why = (BadRow n, why, refl)
fault_emitted db (BadDelay x) why = (BadDelay x, why, refl)
fault_emitted db OtherVersion why = (OtherVersion, why, refl)
fault_emitted db NoMemory why = tt

-- where a trail is refused nothing was being written
pub refused_unwritten : (fault : TrailFault) (P : Type 0) → P → UnlessPrinting (trail_failure fault) P
refused_unwritten Refused P p = p
refused_unwritten OtherFiles P p = p
refused_unwritten (BadRow n) P p = p
refused_unwritten (BadDelay x) P p = p
refused_unwritten OtherVersion P p = p
refused_unwritten NoMemory P p = tt
