-- The numbers of refusals.
use Rattle.std.specs.Prelude.{ℕ, Ok, Err, Result}
use Rattle.rules.specs.Runs.{Answer, granted, refused}
use Rattle.run.specs.declared.faults.RunFault.{RunFault}
use Rattle.run.specs.declared.faults.RunFault.TheVariants.{Unknown, EqualEnds, Against, AlreadyStarted, NotRunning, Early, Late, RoundEarly, ShortMemory}

abbrev pub fault_number : RunFault → ℕ
fault_number Unknown = 6
fault_number EqualEnds = 8
fault_number Against = 10
fault_number AlreadyStarted = 12
fault_number NotRunning = 12
fault_number Early = 13
fault_number Late = 14
fault_number RoundEarly = 15
fault_number ShortMemory = 16

-- granted, or refused with the number of the fault
abbrev pub answer : Result Unit RunFault → Answer
answer (Ok u) = granted
answer (Err f) = refused (fault_number f)
