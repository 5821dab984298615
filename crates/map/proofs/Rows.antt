-- Lines one after the other.
use Rattle.std.proofs.Common.{◌≡◌, ℕ, zero, suc, ◌+◌, List, ◌++◌, sym, ap, ◌∙◌, add-one, arith}
use Rattle.std.proofs.lemmas.List.{append_assoc, append-nil}
use Rattle.rules.specs.Lists.{numbers_from}
use Rattle.rules.specs.Maps.{for_each}

-- what one number more gives comes last
more_from : (f : ℕ → List ℕ) (a n : ℕ) → for_each f (numbers_from a (suc n)) ≡ for_each f (numbers_from a n) ++ f (a + n)
more_from f a zero = append-nil (f a) ∙ ap f (omega arith)
more_from f a (suc n) =
    ap (λ xs. f a ++ xs) (more_from f (suc a) n) ∙ sym (append_assoc (f a) (for_each f (numbers_from (suc a) n)) (f (suc a + n)))
    ∙ ap (λ k. (f a ++ for_each f (numbers_from (suc a) n)) ++ f k) (omega arith)

pub for_each_more : (f : ℕ → List ℕ) (n : ℕ) → for_each f (numbers_from 0 (n + 1)) ≡ for_each f (numbers_from 0 n) ++ f n
for_each_more f n = ap (λ k. for_each f (numbers_from 0 k)) (add-one n) ∙ more_from f 0 n ∙ ap (λ k. for_each f (numbers_from 0 n) ++ f k) (omega arith)

-- one line more is written
pub line_more : (f : ℕ → List ℕ) (n : ℕ) (old now' new : List ℕ) → now' ≡ old ++ for_each f (numbers_from 0 n) → new ≡ now' ++ f n → new ≡ old ++ for_each f (numbers_from 0 (n + 1))
line_more f n old now' new so_far more =
    more ∙ ap (λ xs. xs ++ f n) so_far ∙ append_assoc old (for_each f (numbers_from 0 n)) (f n) ∙ ap (λ xs. old ++ xs) (sym (for_each_more f n))
