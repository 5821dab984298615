use Rattle.rules.proofs.placing_laws.layers_are_fit_rules.Goals as goal
use Rattle.rules.proofs.Layers.{layers_are_fit_rules}

pub returns : goal.returns
returns c = layers_are_fit_rules
