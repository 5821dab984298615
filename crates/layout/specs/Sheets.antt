-- Objects that are those of a sheet.
use Rattle.std.specs.Prelude.{◌≡◌, ℕ, ◌<◌, true, ◌↔◌}
use Rattle.rules.specs.Sheets.{Sheet}
use Rattle.rules.specs.Objects.{object_count, size, touching}
use Rattle.rules.specs.Exclusion.{Excludes}
use Rattle.layout.specs.Worlds.{World}

-- placing sees the objects of the sheet
pub record OfSheet (w : World) (s : Sheet) : Type 0 where
  pub count : w.count ≡ object_count s
  pub sizes : (x : ℕ) → x < object_count s → w.sizes x ≡ size s x
  pub touched : (x : ℕ) → x < object_count s → w.touched x ≡ touching s x
  pub excluding : (x y : ℕ) → x < object_count s → y < object_count s → (w.excluding x y ≡ true) ↔ Excludes s x y
