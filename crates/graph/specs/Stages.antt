-- What the head of a sheet says so far.

use Rattle.std.specs.Prelude.{ℕ, Bool, true, false, Some, None, Option}
use Rattle.rules.specs.declared.sheet.Fit.{Fit}
use Rattle.rules.specs.declared.sheet.Machine.{Machine}
use Rattle.graph.specs.declared.stage.Stage.{Stage}
use Rattle.graph.specs.declared.stage.Stage.TheVariants.{Blank, Machined, Ruled}

-- the grain; 1 where there is no machine yet
abbrev pub grain_of : Stage → ℕ
grain_of Blank = 1
grain_of (Machined m) = m.grain
grain_of (Ruled m f) = m.grain

-- whether machine and fit are there
abbrev pub is_ruled : Stage → Bool
is_ruled Blank = false
is_ruled (Machined m) = false
is_ruled (Ruled m f) = true

-- how many cores there are; none where there is no machine yet
abbrev pub stage_cores : Stage → ℕ
stage_cores Blank = 0
stage_cores (Machined m) = m.cores
stage_cores (Ruled m f) = m.cores

-- the machine and the fit rule, where both are there
abbrev pub head_of : Stage → Option (Machine × Fit)
head_of Blank = None
head_of (Machined m) = None
head_of (Ruled m f) = Some (m, f)
