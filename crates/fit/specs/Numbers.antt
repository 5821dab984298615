-- The numbers of refused questions.
use Rattle.std.specs.Prelude.{ℕ}
use Rattle.fit.specs.declared.faults.AskFault.{AskFault}
use Rattle.fit.specs.declared.faults.AskFault.TheVariants.{OffRange, TooMany}

abbrev pub number_of : AskFault → ℕ
number_of OffRange = 5
number_of TooMany = 7
