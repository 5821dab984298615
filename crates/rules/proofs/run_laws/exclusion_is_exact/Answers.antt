use Rattle.rules.proofs.run_laws.exclusion_is_exact.Goals as goal
use Rattle.rules.proofs.Exact.{exclusion_is_exact}

pub returns : goal.returns
returns c = exclusion_is_exact
