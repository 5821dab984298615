-- Small words on lists and numbers that the rules are written with.
use Rattle.std.specs.Prelude.{◌≡◌, ℕ, zero, suc, ◌+◌, ◌<◌, ◌≤◌, ◌⊎◌, List, [], ◌∷◌}
-- `Every P xs`: P holds of every one of the list
pub use Rattle.std.specs.List.{AllByRecursion as Every}

infix 40 ◌∈◌
-- P holds of some one of the list
abbrev pub Any : {X : Type 0} → (X → Type 0) → List X → Type 0
Any P [] = ⊥
Any P (x ∷ xs) = P x ⊎ Any P xs

-- x is one of the list
abbrev pub ◌∈◌ : {X : Type 0} → X → List X → Type 0
x ∈ xs = Any (λ y. x ≡ y) xs

-- the sum of a weight over a list
abbrev pub total : {X : Type 0} → (X → ℕ) → List X → ℕ
total f [] = 0
total f (x ∷ xs) = f x + total f xs

-- a is the lowest number of which P holds
pub record Lowest (P : ℕ → Type 0) (a : ℕ) : Type 0 where
  pub holds : P a
  pub least : (b : ℕ) → P b → a ≤ b

-- each number is below all that follow it
abbrev pub AscendingNumbers : List ℕ → Type 0
AscendingNumbers [] = Unit {0}
AscendingNumbers (a ∷ rest) = Every (λ b. a < b) rest × AscendingNumbers rest

-- the numbers from `from` on, as many as `count`
abbrev pub numbers_from : ℕ → ℕ → List ℕ
numbers_from from zero = []
numbers_from from (suc count) = from ∷ numbers_from (suc from) count
