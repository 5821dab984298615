-- The net changes of actors.
use Rattle.std.specs.Prelude.{◌≡◌, ℕ, ◌<◌, List, ℤ, pos, ◌-ℤ◌, Some, None, Option}
use Rattle.rules.specs.declared.sheet.Link.{Link}
use Rattle.rules.specs.Lean.{produced, consumed}
use Rattle.rules.specs.Sheets.{Sheet, actor_count}

-- what actor a produces minus what it consumes
abbrev pub net_of : List Link → ℕ → ℤ
net_of links a = pos (produced links a) -ℤ pos (consumed links a)

-- the net change of actor a of the sheet; none exactly where it has no such actor
abbrev pub IsNet : Sheet → ℕ → Option ℤ → Type 0
IsNet s a None = a < actor_count s → ⊥
IsNet s a (Some n) = (a < actor_count s) × (n ≡ net_of s.links a)
