use Rattle.rules.proofs.run_laws.witness_shows.Goals as goal
use Rattle.rules.proofs.Exact.{witness_shows}

pub returns : goal.returns
returns c = witness_shows
