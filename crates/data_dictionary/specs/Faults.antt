-- The meaning of a fault for the output.
use Rattle.data_dictionary.specs.declared.faults.WriteFault.{WriteFault}
use Rattle.data_dictionary.specs.declared.faults.WriteFault.TheVariants.{Memory, Output}

-- the fact, unless a write failed
abbrev pub UnlessWriting : WriteFault → Type 0 → Type 0
UnlessWriting Memory fact = fact
UnlessWriting Output fact = Unit {0}
