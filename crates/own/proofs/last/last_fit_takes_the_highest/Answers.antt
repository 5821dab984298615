use Rattle.own.specs.Highest.{last_takes_the_highest}
use Rattle.own.proofs.last.last_fit_takes_the_highest.Goals as goal

pub returns : goal.returns
returns c = last_takes_the_highest
