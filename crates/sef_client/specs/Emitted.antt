-- The faults of a run's line.
use Rattle.std.specs.Prelude.{◌≡◌, ℕ, ◌+◌, List}
use Rattle.gateway.specs.Said.{Said, faults_in}
use Rattle.sef_client.specs.declared.fault.ClientFault.{ClientFault}
use Rattle.sef_client.specs.declared.fault.ClientFault.TheVariants as faults
use Rattle.sef_client.specs.declared.fault.Stop.{Stop}
use Rattle.sef_client.specs.declared.fault.Stop.TheVariants as stops

-- the count of line faults that a fault stands for
abbrev pub faults_of : ClientFault → ℕ
faults_of faults.LineFault = 1
faults_of faults.Turns = 0
faults_of faults.NoMemory = 0

abbrev pub stopped_by : Stop → ℕ
stopped_by stops.LineFault = 1
stopped_by stops.NoMemory = 0

-- the line reported no further fault
abbrev pub Unfaulted : List Said → List Said → Type 0
Unfaulted old new = faults_in new ≡ faults_in old

-- the line reported one further fault, where this fault is the line's, and else none
abbrev pub Faulted : List Said → List Said → ClientFault → Type 0
Faulted old new fault = faults_in new ≡ faults_in old + faults_of fault

-- the same where a turn did not end
abbrev pub Stopped : List Said → List Said → Stop → Type 0
Stopped old new stop = faults_in new ≡ faults_in old + stopped_by stop
