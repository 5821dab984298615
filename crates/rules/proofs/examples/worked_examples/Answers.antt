use Rattle.rules.proofs.examples.worked_examples.Goals as goal
use Rattle.rules.proofs.Worked.{worked_examples}

pub returns : goal.returns
returns c = worked_examples
