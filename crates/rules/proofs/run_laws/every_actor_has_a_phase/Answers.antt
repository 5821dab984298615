use Rattle.rules.proofs.run_laws.every_actor_has_a_phase.Goals as goal
use Rattle.rules.proofs.Orderly.{every_actor_has_a_phase}

pub returns : goal.returns
returns c = every_actor_has_a_phase
