-- Facts about a stopped run.
use Rattle.once_session.specs.declared.fault.OnceFault.{OnceFault}
use Rattle.once_session.specs.declared.fault.OnceFault.TheVariants.{Memory, Input, Output}

-- the fact, unless the output failed
abbrev pub UnlessOutput : OnceFault → Type 0 → Type 0
UnlessOutput Output fact = Unit {0}
UnlessOutput Memory fact = fact
UnlessOutput Input fact = fact
