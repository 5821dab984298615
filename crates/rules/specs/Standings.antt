-- What stands when some objects of a bank have had their turn.
use Rattle.std.specs.Prelude.{◌≡◌, ℕ, List, [], ◌∷◌, Some, Option}
use Rattle.std.specs.Option.{option_map}
use Rattle.rules.specs.declared.memory.Stretch.{Stretch}
use Rattle.rules.specs.Lists.{◌∈◌, Every}
use Rattle.rules.specs.Stretches.{Gaps}
use Rattle.rules.specs.Fitting.{Rule}
use Rattle.rules.specs.Placing.{Bank, Places, Earlier, Taken, ByTheRule}

-- each has its turn before all that follow
abbrev pub InTurn : Bank → List ℕ → Type 0
InTurn bank [] = Unit {0}
InTurn bank (x ∷ xs) = Every (λ y. Earlier bank x y) xs × InTurn bank xs

-- the objects done have their places by the rule, and nothing else has one
pub record Standing (bank : Bank) (rule : Rule) (done : List ℕ) (places : Places) : Type 0 where
  pub placed : (y : ℕ) → y ∈ done → (p : ℕ) × (places y ≡ Some p)
  pub by_the_rule : (y : ℕ) → y ∈ done → ByTheRule bank rule places y
  pub nothing_else : (y p : ℕ) → places y ≡ Some p → y ∈ done

-- the rule's answer for x, beside the places so far
pub record Answered (bank : Bank) (rule : Rule) (places : Places) (x : ℕ) (answer : Option ℕ) : Type 0 where
  pub gaps : List Stretch
  pub are_gaps : Gaps bank.capacity (Taken bank places x) gaps
  pub says : answer ≡ option_map (λ a. a.0) (rule gaps (bank.size x) bank.grain)
