-- What the fabric of a sheet means.
use Rattle.rules.specs.Fabrics.{Meaning, hybrid, separate, unified}
use Rattle.fabric.specs.declared.boards.SheetFabric.{SheetFabric}
use Rattle.fabric.specs.declared.boards.SheetFabric.TheVariants.{Unified, Private, Hybrid}

abbrev pub sheet_means : SheetFabric → Meaning
sheet_means (Unified f) = unified f.cores f.capacity
sheet_means (Private f) = separate f.cores f.capacity
sheet_means (Hybrid f) = hybrid f.cores f.shared f.private
