use Rattle.rules.proofs.run_laws.live_objects_exclude.Goals as goal
use Rattle.rules.proofs.Living.{live_objects_exclude}

pub returns : goal.returns
returns c = live_objects_exclude
