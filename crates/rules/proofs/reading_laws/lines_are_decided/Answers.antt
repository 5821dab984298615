use Rattle.rules.proofs.Lines.{lines_are_decided}
use Rattle.rules.proofs.reading_laws.lines_are_decided.Goals as goal

pub returns : goal.returns
returns c = lines_are_decided
