use Rattle.rules.proofs.lean_laws.lean_listings_run.Goals as goal
use Rattle.rules.proofs.Peaks.{lean_listings_run}

pub returns : goal.returns
returns c = lean_listings_run
