-- Stretches of bytes, the gaps of a bank, and rounding up to the grain.
use Rattle.std.specs.Prelude.{◌≡◌, ℕ, ◌+◌, ◌-◌, ◌*◌, ◌/◌, ◌<◌, ◌≤◌, ◌↔◌, List, [], ◌∷◌}
use Rattle.rules.specs.declared.memory.Stretch.{Stretch}
pub use Rattle.rules.specs.Lists.{Every, Any, ◌∈◌}

-- the byte b is in the stretch
abbrev pub Covers : Stretch → ℕ → Type 0
Covers s b = (s.start ≤ b) × (b < s.end)

-- ascending, and at least one byte lies between any two
abbrev pub Spaced : List Stretch → Type 0
Spaced [] = Unit {0}
Spaced (g ∷ gs) = Every (λ h. g.end < h.start) gs × Spaced gs

-- gs are the gaps below the capacity that the taken bytes leave
pub record Gaps (capacity : ℕ) (Taken : ℕ → Type 0) (gs : List Stretch) : Type 0 where
  pub spaced : Spaced gs
  pub each : Every (λ g. (g.start < g.end) × (g.end ≤ capacity)) gs
  pub exactly : (b : ℕ) → b < capacity → Any (λ g. Covers g b) gs ↔ (Taken b → ⊥)

-- a byte that one of the blocked stretches covers
abbrev pub Blocked : List Stretch → ℕ → Type 0
Blocked ss b = Any (λ s. Covers s b) ss

-- a non-empty stretch below the capacity with no taken byte
abbrev pub Untaken : ℕ → (ℕ → Type 0) → Stretch → Type 0
Untaken capacity Taken g = (g.start < g.end) × (g.end ≤ capacity) × ((b : ℕ) → Covers g b → Taken b → ⊥)

-- no other such stretch has it as a part
abbrev pub Maximal : ℕ → (ℕ → Type 0) → Stretch → Type 0
Maximal capacity Taken g =
    Untaken capacity Taken g × ((h : Stretch) → Untaken capacity Taken h → h.start ≤ g.start → g.end ≤ h.end → h ≡ g)

-- the least multiple of the grain at or above n
unfoldable pub rounded_up : ℕ → ℕ → ℕ
rounded_up grain n = (n + (grain - 1)) / grain * grain

-- n is a multiple of the grain
abbrev pub OnGrain : ℕ → ℕ → Type 0
OnGrain grain n = (k : ℕ) × (n ≡ k * grain)
