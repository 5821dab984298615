-- The gap that last fit chooses.
use Rattle.std.specs.Prelude.{ℕ, ◌≤◌, List, [], ◌∷◌, None}
use Rattle.std.specs.Option.{option_or}
use Rattle.rules.specs.declared.memory.Stretch.{Stretch}
use Rattle.rules.specs.Fitting.{Proper, Rule, Takes}
use Rattle.rules.specs.Choosing.{offer}

-- the last gap that holds the size
abbrev pub last_of : Rule
last_of [] size grain = None
last_of (g ∷ gs) size grain = option_or (last_of gs size grain) (offer g size grain)

-- last fit prefers the gap that starts higher
abbrev pub Higher : Stretch → Stretch → Type 0
Higher g h = h.start ≤ g.start

-- the rule takes the highest gap that holds the object
abbrev pub IsLastFit : Rule → Type 0
IsLastFit rule = (gs : List Stretch) (size grain : ℕ) → Proper gs size grain → Takes Higher gs size grain (rule gs size grain)
