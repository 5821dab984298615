use Rattle.rules.proofs.Accepted.{accepted_texts_are_spellings}
use Rattle.rules.proofs.reading_laws.accepted_texts_are_spellings.Goals as goal

pub returns : goal.returns
returns c = accepted_texts_are_spellings
