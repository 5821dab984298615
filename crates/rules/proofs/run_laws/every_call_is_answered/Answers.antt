use Rattle.rules.proofs.run_laws.every_call_is_answered.Goals as goal
use Rattle.rules.proofs.Answered.{every_call_is_answered}

pub returns : goal.returns
returns c = every_call_is_answered
