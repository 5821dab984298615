use Rattle.rules.proofs.run_laws.exclusion_is_exact_for_all.Goals as goal
use Rattle.rules.proofs.Exact.{exclusion_is_exact_for_all}

pub returns : goal.returns
returns c = exclusion_is_exact_for_all
