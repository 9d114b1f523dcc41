-- Why a trail ends a program.
use Rattle.sqlite.specs.declared.error.Error.{Error}
use Rattle.sqlite.specs.declared.error.Error.TheVariants.{SqliteFailure}
use Rattle.sqlite.specs.declared.error.ErrorCode.{ErrorCode}
use Rattle.sqlite.specs.declared.error.ErrorCode.TheVariants as code
use Rattle.venue_rules.specs.declared.trail.TrailFault.{TrailFault}
use Rattle.venue_rules.specs.declared.trail.TrailFault.TheVariants as trail
use Rattle.program_shell.specs.declared.trail_end.TrailEnd.{TrailEnd}
use Rattle.program_shell.specs.declared.trail_end.TrailEnd.TheVariants.{Refused, Memory, Stopped}

-- the end where a trail has this fault
abbrev pub end_of_fault : TrailFault → TrailEnd
end_of_fault trail.Refused = Refused 1
end_of_fault trail.OtherFiles = Refused 2
end_of_fault (trail.BadRow n) = Refused 3
end_of_fault trail.OtherVersion = Refused 4
end_of_fault (trail.BadDelay x) = Refused 5
end_of_fault trail.NoMemory = Memory

-- and where its file is not opened: another process has it, or the disk failed; else there is none, or no database
abbrev pub end_of_code : ErrorCode → TrailEnd
end_of_code code.OutOfMemory = Memory
end_of_code code.DatabaseBusy = Stopped
end_of_code code.SystemIoFailure = Stopped
end_of_code code.DiskFull = Stopped
end_of_code code.Closed = Stopped
end_of_code _ = Refused 1

abbrev pub end_of_error : Error → TrailEnd
end_of_error (SqliteFailure c) = end_of_code c
end_of_error _ = Refused 1
