use Rattle.rules.proofs.placing_laws.gaps_exist_once.Goals as goal
use Rattle.rules.proofs.Scan.{gaps_exist_once}

pub returns : goal.returns
returns c = gaps_exist_once
