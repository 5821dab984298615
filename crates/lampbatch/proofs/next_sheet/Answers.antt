use Rattle.std.proofs.Common.{◌≡◌, ℕ, ◌≤◌, List, ◌∷◌, length, Some, ap, decimal, arith, length-append}
use Rattle.std.proofs.lemmas.Grind.{common_steps}
use Rattle.rules.specs.Numerals.{field_on, number_on}
use Rattle.rules.proofs.NumberFields.{field_so}
use Rattle.lampbatch.proofs.next_sheet.Goals as goal

-- what follows a number is no longer than the text that begins with it
number_within : (s : List ℕ) (n : ℕ) (rest : List ℕ) → number_on s ≡ Some (n, rest) → length rest ≤ length s
unfolding field_on
number_within s n rest e =
    let f = field_so (32 ∷ s) n rest e in
    omega (arith, length-append (decimal n) rest, ap length f.1)

pub returns : goal.returns
returns c =
    let n = number_within c.args.input.now _ _ c.in_ok-length.ensures in
    grind (arith, common_steps, c.in_ok-strip_prefix.ensures.cases)
