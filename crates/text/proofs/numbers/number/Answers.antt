use Rattle.std.proofs.Common.{◌≡◌, ℕ, ◌+◌, ◌-◌, ◌*◌, ◌≤◌, List, [], ◌∷◌, None, arith, rules}
use Rattle.std.proofs.lemmas.Grind.{common_steps}
use Rattle.rules.specs.Numerals.{digits_on}
use Rattle.text.proofs.numbers.number.Goals as goal

-- what has grown too large stays so
too_large : (n : ℕ) (cs : List ℕ) → 4294967296 ≤ n → digits_on n cs ≡ None
too_large n [] h = search rules
too_large n (c ∷ cs) h = let more = too_large (n * 10 + (c - 48)) cs (omega arith) in search rules

pub returns-in_err-checked_mul : goal.returns-in_err-checked_mul
returns-in_err-checked_mul c = grind (arith, common_steps, too_large)

pub returns-in_err-n : goal.returns-in_err-n
returns-in_err-n c = grind (arith, common_steps, too_large)
