use Rattle.rules.proofs.placing_laws.footprints_are_bounded.Goals as goal
use Rattle.rules.proofs.Footprints.{footprints_are_bounded}

pub returns : goal.returns
returns c = footprints_are_bounded
