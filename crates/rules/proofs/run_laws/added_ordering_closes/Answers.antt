use Rattle.rules.proofs.run_laws.added_ordering_closes.Goals as goal
use Rattle.rules.proofs.Orderly.{added_ordering_closes}

pub returns : goal.returns
returns c = added_ordering_closes
