use Rattle.rules.proofs.order_laws.before_is_decided.Goals as goal
use Rattle.rules.proofs.Joining.{before_is_decided}

pub returns : goal.returns
returns c = before_is_decided
