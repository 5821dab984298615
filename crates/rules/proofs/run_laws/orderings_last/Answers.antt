use Rattle.rules.proofs.run_laws.orderings_last.Goals as goal
use Rattle.rules.proofs.Orderly.{orderings_last}

pub returns : goal.returns
returns c = orderings_last
