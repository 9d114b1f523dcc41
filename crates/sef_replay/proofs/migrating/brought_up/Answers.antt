use Rattle.std.proofs.Common.{None, inl, inr, subst}
use Rattle.sqlite.specs.Held.{state}
use Rattle.sqlite.specs.State.{HasCleanDisk}
use Rattle.venue_rules.specs.declared.trail.TrailFault.{TrailFault}
use Rattle.audit_trail.specs.Open.{OpenFault}
use Rattle.sef_replay.proofs.Causes.{migrate_again}
use Rattle.sef_replay.proofs.Older.{clean_before, fault_migrated, leaves_made, of_err, of_ok, of_three, survives_migrating, third_made}
use Rattle.sef_replay.proofs.migrating.brought_up.Goals as goal

-- a database of another version is handed back as it was
pub returns-in-Err-OtherVersion-default-clause-third : goal.returns-in-Err-OtherVersion-default-clause-third
returns-in-Err-OtherVersion-default-clause-third g c =
    let back = c.in-Err-OtherVersion-default in
    of_ok c.migrate.result _ _ _ c.migrate.ensures.migrated c.migrate.ensures.crash
    (λ up made s clean. third_made (state g.S.Store c.args.conn) (state g.S.Store back.conn) (state g.S.Store up) (back.ensures.version (clean_before _ _ _ s clean) back.field-0-0-is) (made clean))

pub returns-in-Err-OtherVersion-default-clause-durable : goal.returns-in-Err-OtherVersion-default-clause-durable
returns-in-Err-OtherVersion-default-clause-durable g c =
    let back = c.in-Err-OtherVersion-default in
    of_three c.migrate.result _ _ _ _ c.migrate.ensures.migrated c.migrate.ensures.durable c.migrate.ensures.crash
    (λ up made last s clean.
    leaves_made (state g.S.Store c.args.conn) (state g.S.Store back.conn) (state g.S.Store up) (back.ensures.version (clean_before _ _ _ s clean) back.field-0-0-is) (made clean) (last clean))

pub returns-in-Err-OtherVersion-default-clause-fault : goal.returns-in-Err-OtherVersion-default-clause-fault
returns-in-Err-OtherVersion-default-clause-fault g c =
    let back = c.in-Err-OtherVersion-default in
    of_err c.migrate.result _ _ _ c.migrate.ensures.fault c.migrate.ensures.crash_err
    (λ e why s clean.
    let was : HasCleanDisk (state g.S.Store back.conn) = clean_before _ _ _ s clean in
    fault_migrated (state g.S.Store c.args.conn) (state g.S.Store back.conn) e.0 (back.ensures.version was back.field-0-0-is)
    (subst (λ (fault : TrailFault). OpenFault None (state g.S.Store c.args.conn).now fault) back.field-0-0-is (back.ensures.fault was)) (why clean))

pub returns-in-Err-OtherVersion-default-clause-crash : goal.returns-in-Err-OtherVersion-default-clause-crash
returns-in-Err-OtherVersion-default-clause-crash g c =
    let back = c.in-Err-OtherVersion-default in
    of_ok c.migrate.result _ _ _ c.migrate.ensures.crash c.migrate.ensures.crash
    (λ up s _. survives_migrating (state g.S.Store c.args.conn) (state g.S.Store back.conn) (state g.S.Store up) (λ was. back.ensures.version was back.field-0-0-is) back.ensures.crash_err s)

pub returns-in-Err-OtherVersion-default-clause-crash_err : goal.returns-in-Err-OtherVersion-default-clause-crash_err
returns-in-Err-OtherVersion-default-clause-crash_err g c =
    let back = c.in-Err-OtherVersion-default in
    of_err c.migrate.result _ _ _ c.migrate.ensures.crash_err c.migrate.ensures.crash_err
    (λ e s _. survives_migrating (state g.S.Store c.args.conn) (state g.S.Store back.conn) (state g.S.Store e.1) (λ was. back.ensures.version was back.field-0-0-is) back.ensures.crash_err s)

pub returns-in-Err-OtherVersion-default-clause-cause : goal.returns-in-Err-OtherVersion-default-clause-cause
returns-in-Err-OtherVersion-default-clause-cause g c =
    let back = c.in-Err-OtherVersion-default in
    let old = state g.S.Store c.args.conn in
    let mid = state g.S.Store back.conn in
    of_err c.migrate.result _ _ _ c.migrate.ensures.cause c.migrate.ensures.crash_err
    (λ e why s clean is.
    let was : HasCleanDisk mid = clean_before _ _ _ s clean in
    let version = subst (λ (fault : TrailFault). OpenFault None old.now fault) back.field-0-0-is (back.ensures.fault was) in
    inr (version, migrate_again old mid (state g.S.Store e.1) (back.ensures.version was back.field-0-0-is) back.ensures.crash_err.counts back.ensures.crash_err.limit (why clean is)))

pub returns-in-Err-clause-cause : goal.returns-in-Err-clause-cause
returns-in-Err-clause-cause g c clean is = inl (c.in-Err.ensures.cause clean is)

pub returns-in-Err-OtherVersion-default-clause-understood : goal.returns-in-Err-OtherVersion-default-clause-understood
returns-in-Err-OtherVersion-default-clause-understood g c =
    let back = c.in-Err-OtherVersion-default in
    of_err c.migrate.result _ _ _ c.migrate.ensures.crash_err c.migrate.ensures.crash_err
    (λ e s _ clean is. back.ensures.understood (clean_before _ _ _ s clean) back.field-0-0-is)

pub returns-in-Err-clause-understood : goal.returns-in-Err-clause-understood
returns-in-Err-clause-understood g c clean is = c.in-Err.ensures.understood clean is
