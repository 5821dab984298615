use Rattle.rules.proofs.placing_laws.laid_out_is_sound.Goals as goal
use Rattle.rules.proofs.Placed.{laid_out_is_sound}

pub returns : goal.returns
returns c = laid_out_is_sound
