use Rattle.rules.proofs.placing_laws.fabrics_are_lawful.Goals as goal
use Rattle.rules.proofs.Homes.{fabrics_are_lawful}

pub returns : goal.returns
returns c = fabrics_are_lawful
