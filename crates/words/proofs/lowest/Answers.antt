use Rattle.std.proofs.Common.{◌≡◌, ℕ, ◌^◌, ◌<◌, ◌==◌, false, not, Some, None, Option, arith, rules}
use lib.Count.{count_trailing_zeros}
use Rattle.std.specs.Option.{MatchOption, IfSome, is_some}
use Rattle.std.proofs.lemmas.Bool.Decides.{nat_tests}
use Rattle.words.specs.Words.{Lowest, bit}
use Rattle.words.proofs.Bits.{bit_zero, lowest_bit}
use Rattle.words.proofs.lowest.Goals as goal

-- the trailing zeros of a word that is not empty, and nothing of one that is
counted : (w : ℕ) (r : Option ℕ) → w < 2 ^ 64 → is_some r ≡ not (w == 0) → IfSome r (λ t. t ≡ count_trailing_zeros 64 w) →
    MatchOption r ((w ≡ 0) × ((k : ℕ) → bit w k ≡ false)) (λ l. (0 < w) × (l < 64) × Lowest w l)
counted w None fits is t =
    let e : w ≡ 0 = grind (arith, nat_tests) in (e, λ k. rw e (bit_zero k))
counted w (Some l) fits is t =
    let some : 0 < w = grind (arith, nat_tests) in
    let least = lowest_bit 64 w some fits in
    rw t (some, least.0, least.1)

pub returns : goal.returns
returns c = counted c.args.w c.then.result (omega arith) (search rules) (search rules)
