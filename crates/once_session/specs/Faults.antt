-- Why an event's fault stops a run.
use Rattle.venue_rules.specs.declared.trail.EventFault.{EventFault}
use Rattle.venue_rules.specs.declared.trail.EventFault.TheVariants.{Behind, Down, Due, NoMemory, TrailRefused}
use Rattle.once_session.specs.declared.fault.OnceFault.{OnceFault}
use Rattle.once_session.specs.declared.fault.OnceFault.TheVariants.{Memory, Output}

-- the session's numbers are used up, or else memory is
abbrev pub fault_of : EventFault → OnceFault
fault_of (Down i) = Output
fault_of (Behind i) = Memory
fault_of Due = Memory
fault_of NoMemory = Memory
fault_of TrailRefused = Memory
