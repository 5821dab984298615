use Rattle.std.proofs.Common.{◌≡◌, ◌≤◌, length}
use Rattle.rules.specs.Numerals.{digits_on, number_on}
use Rattle.text.proofs.numbers.number.Given as goal

-- the digits that are left continue the number
abbrev pub invariant-loop-rest : goal.invariant-loop-rest
invariant-loop-rest l = (l.n ≤ 4294967295) × (digits_on l.n l.rest ≡ number_on l.s)

abbrev pub decreases-loop-rest : goal.decreases-loop-rest
decreases-loop-rest l = length l.rest
