use Rattle.rules.proofs.Validity.{valid_sheets_can_be_placed}
use Rattle.rules.proofs.reading_laws.valid_sheets_can_be_placed.Goals as goal

pub returns : goal.returns
returns c = valid_sheets_can_be_placed
