use Rattle.rules.proofs.order_laws.apart_or_excluding.Goals as goal
use Rattle.rules.proofs.Excluding.{apart_or_excluding}

pub returns : goal.returns
returns c = apart_or_excluding
