-- A table of rows that holds the order of links.
use Rattle.std.specs.Prelude.{◌≡◌, ℕ, true, false, List}
use Rattle.rules.specs.declared.sheet.Link.{Link}
use Rattle.rules.specs.Order.{Linked, edges}
use Rattle.graph.specs.Rows.{before}

-- the bit is set where a chain leads
abbrev pub Heard : List ℕ → List Link → Type 0
Heard rows links = (x y : ℕ) → Linked (edges links) x y → before rows x y ≡ true

-- and clear where none does
abbrev pub Meant : List ℕ → List Link → Type 0
Meant rows links = (x y : ℕ) → (Linked (edges links) x y → ⊥) → before rows x y ≡ false
