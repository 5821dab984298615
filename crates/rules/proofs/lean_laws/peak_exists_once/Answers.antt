use Rattle.rules.proofs.lean_laws.peak_exists_once.Goals as goal
use Rattle.rules.proofs.Peaks.{peak_exists_once}

pub returns : goal.returns
returns c = peak_exists_once
