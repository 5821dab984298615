use Rattle.rules.proofs.Faulted.{faulty_texts_are_refused}
use Rattle.rules.proofs.reading_laws.faulty_texts.Goals as goal

pub returns : goal.returns
returns c = faulty_texts_are_refused
