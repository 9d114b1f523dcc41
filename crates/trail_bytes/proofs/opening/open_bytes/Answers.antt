use Rattle.std.proofs.Common.{◌≡◌, ap}
use Rattle.sqlite.specs.declared.error.Error.TheVariants.{SqliteFailure}
use Rattle.sqlite.specs.declared.error.ErrorCode.TheVariants.{NotADatabase}
use Rattle.trail_bytes.specs.Bytes.{is_refusal}
use Rattle.trail_bytes.proofs.Opened.{clean, left_clean, of_bytes, fault, none, uncaught}
use Rattle.trail_bytes.proofs.opening.open_bytes.Goals as goal

pub returns-in-Ok-open_files-clause-of_bytes : goal.returns-in-Ok-open_files-clause-of_bytes
returns-in-Ok-open_files-clause-of_bytes c =
    let fresh = c.in-Ok-open_files.ensures in
    let disk = clean c.in-Ok-open_files.conn in
    of_bytes c.in-Ok.files c.args.log.now c.args.db.now c.in-Ok-open_files.conn c.in-Ok.ensures.log c.in-Ok.ensures.db (fresh.found disk) (fresh.opened disk)

pub returns-then-is_uncaught-clause-none : goal.returns-then-is_uncaught-clause-none
returns-then-is_uncaught-clause-none c = λ is.
    let same : c.in-Err-open_files.error ≡ SqliteFailure NotADatabase = cc in
    none c.in-Ok.files c.args.log.now c.args.db.now c.in-Err-open_files.left c.in-Err-open_files.error c.in-Ok.ensures.log c.in-Ok.ensures.db
    (c.in-Err-open_files.ensures.cause (left_clean c.in-Err-open_files.left))
    (uncaught c.in-Ok.files c.in-Err-open_files.left c.into_files.result c.tally-before.result c.tally-after.result c.tally-before.ensures c.into_files.ensures c.tally-after.ensures c.if-is_uncaught.ensures)
    (ap is_refusal same)

pub returns-then-is_uncaught-clause-refused : goal.returns-then-is_uncaught-clause-refused
returns-then-is_uncaught-clause-refused c = λ is.
    none c.in-Ok.files c.args.log.now c.args.db.now c.in-Err-open_files.left c.in-Err-open_files.error c.in-Ok.ensures.log c.in-Ok.ensures.db
    (c.in-Err-open_files.ensures.cause (left_clean c.in-Err-open_files.left))
    (uncaught c.in-Ok.files c.in-Err-open_files.left c.into_files.result c.tally-before.result c.tally-after.result c.tally-before.ensures c.into_files.ensures c.tally-after.ensures c.if-is_uncaught.ensures)
    is

pub returns-then-is_uncaught-clause-fault : goal.returns-then-is_uncaught-clause-fault
returns-then-is_uncaught-clause-fault c =
    fault c.in-Ok.files c.in-Err-open_files.left c.in-Err-open_files.error
    (c.in-Err-open_files.ensures.cause (left_clean c.in-Err-open_files.left))
    (uncaught c.in-Ok.files c.in-Err-open_files.left c.into_files.result c.tally-before.result c.tally-after.result c.tally-before.ensures c.into_files.ensures c.tally-after.ensures c.if-is_uncaught.ensures)
