use Rattle.rules.proofs.placing_laws.gaps_are_the_maximal_stretches.Goals as goal
use Rattle.rules.proofs.GapLists.{gaps_are_the_maximal_stretches}

pub returns : goal.returns
returns c = gaps_are_the_maximal_stretches
