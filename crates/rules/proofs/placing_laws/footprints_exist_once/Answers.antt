use Rattle.rules.proofs.placing_laws.footprints_exist_once.Goals as goal
use Rattle.rules.proofs.Footprints.{footprints_exist_once}

pub returns : goal.returns
returns c = footprints_exist_once
