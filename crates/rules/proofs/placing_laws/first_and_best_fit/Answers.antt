use Rattle.rules.proofs.placing_laws.first_and_best_fit.Goals as goal
use Rattle.rules.proofs.Preferred.{first_and_best_fit}

pub returns : goal.returns
returns c = first_and_best_fit
