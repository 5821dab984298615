use Rattle.rules.proofs.lean_laws.lean_order_exists_once.Goals as goal
use Rattle.rules.proofs.Leanest.{lean_order_exists_once}

pub returns : goal.returns
returns c = lean_order_exists_once
