use Rattle.rules.proofs.placing_laws.placing_is_determined.Goals as goal
use Rattle.rules.proofs.Determined.{placing_is_determined}

pub returns : goal.returns
returns c = placing_is_determined
