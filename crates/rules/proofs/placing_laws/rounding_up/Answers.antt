use Rattle.rules.proofs.placing_laws.rounding_up.Goals as goal
use Rattle.rules.proofs.Rounding.{rounding_up}

pub returns : goal.returns
returns c = rounding_up
