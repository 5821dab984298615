use Rattle.std.proofs.Common.{arith}
use Rattle.std.proofs.lemmas.Bool.Decides.{nat_tests}
use Rattle.std.proofs.lemmas.Nat.Bits.{bit_at_above}
use Rattle.words.proofs.has.Goals as goal

pub returns-else-k-lt-ROOM : goal.returns-else-k-lt-ROOM
returns-else-k-lt-ROOM c =
    grind (arith, nat_tests, c.if-k-lt-ROOM.false, bit_at_above c.args.w 64 c.args.k (omega arith) c.if-k-lt-ROOM.false)
