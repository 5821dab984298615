-- Which numbers of a line are in range.

use Rattle.std.specs.Prelude.{ℕ, Bool, ◌&&◌, ◌==◌, nat_le}
use Rattle.rules.specs.Fitting.{is_grain}
use Rattle.rules.specs.declared.sheet.Machine.{Machine}
use Rattle.rules.specs.declared.sheet.Kind.{Kind}
use Rattle.rules.specs.declared.sheet.Kind.TheVariants.{Unified, Private, Hybrid}

-- the capacity of the memory that a kind lacks
abbrev pub lacking : Kind → ℕ → ℕ → ℕ
lacking Unified shared private = private
lacking Private shared private = shared
lacking Hybrid shared private = 0

-- 1 to 8 cores, a grain on the table, and no bytes in the memory that the kind lacks
abbrev pub machine_in_range : Machine → Bool
machine_in_range m = nat_le 1 m.cores && (nat_le m.cores 8 && (is_grain m.grain && lacking m.kind m.shared m.private == 0))

-- a size that an object may have
abbrev pub size_in_range : ℕ → Bool
size_in_range n = nat_le 1 n && nat_le n 16777216
