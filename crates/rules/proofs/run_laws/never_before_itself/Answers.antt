use Rattle.rules.proofs.run_laws.never_before_itself.Goals as goal
use Rattle.rules.proofs.Orderly.{never_before_itself}

pub returns : goal.returns
returns c = never_before_itself
