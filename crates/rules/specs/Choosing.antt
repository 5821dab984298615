-- The gap that first fit and best fit choose.
use Rattle.std.specs.Prelude.{ℕ, ◌+◌, cond, ◌&&◌, List, [], ◌∷◌, Some, None, Option, nat_le, nat_lt}
use Rattle.std.specs.Option.{option_or}
use Rattle.rules.specs.declared.memory.Stretch.{Stretch}
use Rattle.rules.specs.Fitting.{Rule, place_in, answer_from, width}

-- the answer that takes a gap, if the gap holds the size
abbrev pub offer : Stretch → ℕ → ℕ → Option (ℕ × ℕ)
offer g size grain = cond (nat_le (place_in g grain + size) g.end) (Some (answer_from g size grain)) None

-- the first gap that holds the size
abbrev pub first_of : Rule
first_of [] size grain = None
first_of (g ∷ gs) size grain = option_or (offer g size grain) (first_of gs size grain)

-- the better of the best gap so far and one more: one with fewer bytes that holds the size
abbrev pub better : ℕ → ℕ → Option Stretch → Stretch → Option Stretch
better size grain None g = cond (nat_le (place_in g grain + size) g.end) (Some g) None
better size grain (Some b) g = cond (nat_le (place_in g grain + size) g.end && nat_lt (width g) (width b)) (Some g) (Some b)

-- the best gap of a list, after the best so far
abbrev pub best_from : ℕ → ℕ → Option Stretch → List Stretch → Option Stretch
best_from size grain best [] = best
best_from size grain best (g ∷ gs) = best_from size grain (better size grain best g) gs

-- the answer that takes the gap, if there is one
abbrev pub taken : ℕ → ℕ → Option Stretch → Option (ℕ × ℕ)
taken size grain None = None
taken size grain (Some g) = offer g size grain

-- the first of the gaps with the fewest bytes that hold the size
abbrev pub best_of : Rule
best_of gs size grain = taken size grain (best_from size grain None gs)
