-- How a call is written: one way only.
use Rattle.std.specs.Prelude.{◌≡◌, List, ◌++◌, ℕ, codes, Option, Some, ◌↔◌}
use Rattle.rules.specs.Fields.{with_field, ending}
use Rattle.rules.specs.Spelling.{number, Short}
use Rattle.run.specs.declared.call.Call.{Call}
use Rattle.run.specs.declared.call.Call.TheVariants.{Start, Finish, Order, Round}

-- the bytes of a call's line, without its line end
abbrev pub spell : Call → List ℕ
spell (Start a) = codes "start" ++ number a
spell (Finish a) = codes "finish" ++ number a
spell (Order a b) = codes "order" ++ (number a ++ number b)
spell Round = codes "round"

-- every number of a call can be written
abbrev pub Writable : Call → Type 0
Writable (Start a) = Short a
Writable (Finish a) = Short a
Writable (Order a b) = Short a × Short b
Writable Round = Unit {0}

-- the line is the call's
abbrev pub Spells : List ℕ → Call → Type 0
Spells line c = Writable c × (line ≡ spell c)

-- what is found in a line is the call whose line it is, and nothing only where it is no call's
abbrev pub Finds : List ℕ → Option Call → Type 0
Finds line found = (c : Call) → (found ≡ Some c) ↔ Spells line c

-- two numbers, and no more
abbrev pub pair_of : List ℕ → Option (ℕ × ℕ)
pair_of s = with_field s (λ a s₁. with_field s₁ (λ b s₂. ending s₂ (a, b)))
