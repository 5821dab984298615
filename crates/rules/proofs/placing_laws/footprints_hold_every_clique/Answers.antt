use Rattle.rules.proofs.placing_laws.footprints_hold_every_clique.Goals as goal
use Rattle.rules.proofs.Cliques.{footprints_hold_every_clique}

pub returns : goal.returns
returns c = footprints_hold_every_clique
