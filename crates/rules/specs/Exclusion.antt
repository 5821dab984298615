-- Which objects exclude each other.
use Rattle.std.specs.Prelude.{◌≡◌, ℕ, ◌<◌, false, ◌≢◌, ◌⊎◌, List}
use Rattle.rules.specs.Lists.{◌∈◌}
use Rattle.rules.specs.Sheets.{Sheet}
use Rattle.rules.specs.Order.{Before}
use Rattle.rules.specs.Objects.{object_count, first, last, always_live}

-- the lives of two objects never meet: neither is always live,
-- and the last actor of one is before the first actor of the other
pub record Apart (s : Sheet) (x y : ℕ) : Type 0 where
  pub passes : always_live s x ≡ false
  pub passes_too : always_live s y ≡ false
  pub ordered : Before s (last s x) (first s y) ⊎ Before s (last s y) (first s x)

-- x and y are two objects of the sheet, and not apart
pub record Excludes (s : Sheet) (x y : ℕ) : Type 0 where
  pub known : x < object_count s
  pub known_too : y < object_count s
  pub different : x ≢ y
  pub not_apart : Apart s x y → ⊥

-- every two different objects of the list exclude each other
abbrev pub AllExclude : Sheet → List ℕ → Type 0
AllExclude s xs = (x y : ℕ) → x ∈ xs → y ∈ xs → x ≢ y → Excludes s x y
