-- What a fit rule is.
use Rattle.std.specs.Prelude.{◌≡◌, ℕ, zero, suc, ◌+◌, ◌-◌, ◌^◌, ◌<◌, ◌≤◌, Bool, true, false, ◌&&◌, ◌||◌, ◌⊎◌, List, [], ◌∷◌, length, Some, None, filter, Option, ◌==◌, nat_le, nat_lt}
use Rattle.std.specs.Option.{option_or}
use Rattle.rules.specs.declared.memory.Stretch.{Stretch}
use Rattle.rules.specs.declared.sheet.Layer.{Layer}
use Rattle.rules.specs.declared.sheet.Layer.TheVariants.{LowLine, SnugLimit}
use Rattle.rules.specs.Stretches.{Every, Any, rounded_up}

-- the start of a gap, rounded up to the grain
abbrev pub place_in : Stretch → ℕ → ℕ
place_in g grain = rounded_up grain g.start

-- a gap holds a size if its rounded start plus the size is at most its end
abbrev pub Holds : Stretch → ℕ → ℕ → Type 0
Holds g size grain = place_in g grain + size ≤ g.end

-- the bytes of a gap behind the object
abbrev pub left_over : Stretch → ℕ → ℕ → ℕ
left_over g size grain = g.end - place_in g grain - size

-- the answer that takes a gap: the place, and the bytes left over
abbrev pub answer_from : Stretch → ℕ → ℕ → ℕ × ℕ
answer_from g size grain = (place_in g grain, left_over g size grain)

-- absent exactly when no gap holds the size, else taken from one that does
abbrev pub Answers : List Stretch → ℕ → ℕ → Option (ℕ × ℕ) → Type 0
Answers gs size grain None = Every (λ g. Holds g size grain → ⊥) gs
Answers gs size grain (Some a) = Any (λ g. Holds g size grain × (a ≡ answer_from g size grain)) gs

-- no gap starts below the end of one listed before it
abbrev pub Ascending : List Stretch → Type 0
Ascending [] = Unit {0}
Ascending (g ∷ gs) = Every (λ h. g.end ≤ h.start) gs × Ascending gs

-- a power of two from 1 to 4,096
abbrev pub OnTheTable : ℕ → Type 0
OnTheTable grain = (k : ℕ) × (k ≤ 12) × (grain ≡ 2 ^ k)

-- a question that no fit rule may refuse
pub record Proper (gs : List Stretch) (size grain : ℕ) : Type 0 where
  pub size_in_range : (0 < size) × (size ≤ 16777216)
  pub grain_on_the_table : OnTheTable grain
  pub gaps_in_range : Every (λ g. (g.start < g.end) × (g.end ≤ 4294967295)) gs
  pub ascending : Ascending gs
  pub few : length gs ≤ 256

-- whether the number is the grain of some row of the table up to 2 ^ n
abbrev pub up_to_row : ℕ → ℕ → Bool
up_to_row zero grain = grain == 1
up_to_row (suc n) grain = grain == 2 ^ suc n || up_to_row n grain

-- whether a grain is on the table
abbrev pub is_grain : ℕ → Bool
is_grain grain = up_to_row 12 grain

-- whether the gaps ascend from `low` on, none of them empty, each within 32 bits
abbrev pub ascend_from : ℕ → List Stretch → Bool
ascend_from low [] = true
ascend_from low (g ∷ gs) =
    nat_le low g.start && (nat_lt g.start g.end && (nat_le g.end 4294967295 && ascend_from g.end gs))

-- a rule is asked with a list of gaps, a size and a grain
abbrev pub Rule : Type 0
Rule = List Stretch → ℕ → ℕ → Option (ℕ × ℕ)

-- a fit rule answers every proper question
abbrev pub IsFitRule : Rule → Type 0
IsFitRule rule = (gs : List Stretch) (size grain : ℕ) → Proper gs size grain → Answers gs size grain (rule gs size grain)

-- takes, of the gaps that hold the size, one that comes first by an order of gaps
abbrev pub Takes : (Stretch → Stretch → Type 0) → List Stretch → ℕ → ℕ → Option (ℕ × ℕ) → Type 0
Takes Prior gs size grain None = Every (λ g. Holds g size grain → ⊥) gs
Takes Prior gs size grain (Some a) =
    Any (λ g. Holds g size grain × (a ≡ answer_from g size grain) × Every (λ h. Holds h size grain → Prior g h) gs) gs

-- first fit prefers the gap that starts lower
abbrev pub Lower : Stretch → Stretch → Type 0
Lower g h = g.start ≤ h.start

-- how many bytes a gap has
abbrev pub width : Stretch → ℕ
width g = g.end - g.start

-- best fit prefers the gap with fewer bytes, the lower of equals
abbrev pub Tighter : Stretch → Stretch → Type 0
Tighter g h = (width g < width h) ⊎ ((width g ≡ width h) × (g.start ≤ h.start))

-- the rule takes the lowest gap that holds the object
abbrev pub IsFirstFit : Rule → Type 0
IsFirstFit rule = (gs : List Stretch) (size grain : ℕ) → Proper gs size grain → Takes Lower gs size grain (rule gs size grain)

-- the rule takes the tightest gap that holds the object
abbrev pub IsBestFit : Rule → Type 0
IsBestFit rule = (gs : List Stretch) (size grain : ℕ) → Proper gs size grain → Takes Tighter gs size grain (rule gs size grain)

-- a layer asks the rule below about the gaps that pass a test, and if the answer is absent, about all
abbrev pub asks_first : (Stretch → ℕ → ℕ → Bool) → Rule → Rule
asks_first test rule gs size grain = option_or (rule (filter (λ g. test g size grain) gs) size grain) (rule gs size grain)

-- whether a gap ends at or below the line
abbrev pub ends_below : ℕ → Stretch → Bool
ends_below line g = nat_le g.end line

-- whether a gap holds the size with at most `limit` bytes left over
abbrev pub is_snug : ℕ → Stretch → ℕ → ℕ → Bool
is_snug limit g size grain = nat_le (place_in g grain + size) g.end && nat_le (left_over g size grain) limit

-- asks first about the gaps that end at or below the line
abbrev pub low : ℕ → Rule → Rule
low line = asks_first (λ g size grain. ends_below line g)

-- asks first about the gaps that hold the object with at most `limit` bytes left over
abbrev pub snug : ℕ → Rule → Rule
snug limit = asks_first (is_snug limit)

-- the layers of a sheet, each outside those before it, over a rule
abbrev pub layered : Rule → List Layer → Rule
layered rule [] = rule
layered rule (LowLine line ∷ layers) = layered (low line rule) layers
layered rule (SnugLimit limit ∷ layers) = layered (snug limit rule) layers

-- whether a sheet may have these layers: at most one of each sort
abbrev pub may_layer : List Layer → Bool
may_layer [] = true
may_layer (LowLine line ∷ []) = true
may_layer (LowLine line ∷ LowLine other ∷ layers) = false
may_layer (LowLine line ∷ SnugLimit limit ∷ []) = true
may_layer (LowLine line ∷ SnugLimit limit ∷ more ∷ layers) = false
may_layer (SnugLimit limit ∷ []) = true
may_layer (SnugLimit limit ∷ SnugLimit other ∷ layers) = false
may_layer (SnugLimit limit ∷ LowLine line ∷ []) = true
may_layer (SnugLimit limit ∷ LowLine line ∷ more ∷ layers) = false
