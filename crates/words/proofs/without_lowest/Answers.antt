use Rattle.std.proofs.Common.{arith}
use Rattle.words.proofs.Bits.{clear_lowest}
use Rattle.words.proofs.without_lowest.Goals as goal

pub returns-clause-bits : goal.returns-clause-bits
returns-clause-bits c = λ l low k. grind (arith, c.saturating_sub.ensures, clear_lowest c.args.w l k low)
