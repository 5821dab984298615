use Rattle.std.proofs.Common.{arith}
use Rattle.std.proofs.lemmas.Nat.{one_shl}
use Rattle.std.proofs.lemmas.Bool.Decides.{nat_tests}
use Rattle.words.proofs.Bits.{bit_with}
use Rattle.words.proofs.with.Goals as goal

pub returns-then-k-lt-ROOM : goal.returns-then-k-lt-ROOM
returns-then-k-lt-ROOM c =
    let w = c.args.w in
    let k = c.args.k in
    rw (one_shl k 64 c.if-k-lt-ROOM.true) (record { value = grind (arith, nat_tests, c.if-k-lt-ROOM.true); bits = λ j. grind (arith, nat_tests, c.if-k-lt-ROOM.true, bit_with w k j) })
