use Rattle.rules.proofs.order_laws.a_pair_closes.Goals as goal
use Rattle.rules.proofs.Chains.{a_pair_closes}

pub returns : goal.returns
returns c = a_pair_closes
