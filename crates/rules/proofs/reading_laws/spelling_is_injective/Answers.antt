use Rattle.rules.proofs.Lines.{spelling_is_injective}
use Rattle.rules.proofs.reading_laws.spelling_is_injective.Goals as goal

pub returns : goal.returns
returns c = spelling_is_injective
