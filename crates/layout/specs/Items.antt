-- What a list of items says.
use Rattle.std.specs.Prelude.{ℕ, Bool, cond, List, [], ◌∷◌, map, Some, None, ◌==◌}
use Rattle.rules.specs.declared.memory.Stretch.{Stretch}
use Rattle.rules.specs.Placing.{Places}
use Rattle.layout.specs.declared.items.Item.{Item}

-- the bytes of the items
abbrev pub spans : List Item → List Stretch
spans items = map (λ (it : Item). it.on) items

-- the bytes of the items that exclude x, in the order of the items
abbrev pub blocking : (ℕ → ℕ → Bool) → ℕ → List Item → List Stretch
blocking excluding x [] = []
blocking excluding x (it ∷ items) = cond (excluding it.object x) (it.on ∷ blocking excluding x items) (blocking excluding x items)

-- where the items say that an object lies
abbrev pub place_of : List Item → Places
place_of [] y = None
place_of (it ∷ items) y = cond (it.object == y) (Some it.on.start) (place_of items y)
