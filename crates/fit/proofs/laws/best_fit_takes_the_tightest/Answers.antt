use Rattle.rules.proofs.Chosen.{best_takes_the_tightest}
use Rattle.fit.proofs.laws.best_fit_takes_the_tightest.Goals as goal

pub returns : goal.returns
returns c = best_takes_the_tightest
