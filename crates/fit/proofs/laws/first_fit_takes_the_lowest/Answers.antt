use Rattle.rules.proofs.Chosen.{first_takes_the_lowest}
use Rattle.fit.proofs.laws.first_fit_takes_the_lowest.Goals as goal

pub returns : goal.returns
returns c = first_takes_the_lowest
