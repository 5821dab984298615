-- What is printed of an answer: the map that was written, or the fault line.
use Rattle.std.specs.Prelude.{ℕ, List, take, Ok, Err, Result}
use Rattle.rules.specs.Refusals.{fault_line}
use Rattle.planner.specs.declared.faults.JobFault.{JobFault}
use Rattle.planner.specs.Reports.{as_tabled, report_of}

abbrev pub printed : Result ℕ JobFault → List ℕ → List ℕ
printed (Ok end) out = take end out
printed (Err f) out = fault_line (as_tabled (report_of f))
