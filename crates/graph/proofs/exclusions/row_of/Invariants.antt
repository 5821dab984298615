use Rattle.std.proofs.Common.{◌≡◌, ℕ, ◌&&◌, ltb}
use Rattle.graph.specs.Rows.{in_row}
use Rattle.graph.specs.Excluding.{excluding}
use Rattle.graph.proofs.exclusions.row_of.Given as goal

abbrev pub invariant-loop-y : goal.invariant-loop-y
invariant-loop-y l = (z : ℕ) → in_row l.row.words z ≡ (ltb z l.y && excluding l.order.rows l.objects l.x z)
