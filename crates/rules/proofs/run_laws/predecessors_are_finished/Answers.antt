use Rattle.rules.proofs.run_laws.predecessors_are_finished.Goals as goal
use Rattle.rules.proofs.Orderly.{predecessors_are_finished}

pub returns : goal.returns
returns c = predecessors_are_finished
