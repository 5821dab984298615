use Rattle.planner.proofs.FaultLines.{line_of_text}
use Rattle.planner.proofs.faults.reports_are_shown_as_tabled.Goals as goal

pub returns : goal.returns
returns c = line_of_text
