use Rattle.rules.proofs.placing_laws.placing_asks_proper_questions.Goals as goal
use Rattle.rules.proofs.Asking.{placing_asks_proper_questions}

pub returns : goal.returns
returns c = placing_asks_proper_questions
