use Rattle.rules.proofs.Readers.{every_text_has_one_outcome}
use Rattle.rules.proofs.reading_laws.every_text_has_one_outcome.Goals as goal

pub returns : goal.returns
returns c = every_text_has_one_outcome
