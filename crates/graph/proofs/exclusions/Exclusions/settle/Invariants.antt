use Rattle.std.proofs.Common.{◌≡◌, ℕ, ◌<◌, vec_items, vec_len}
use Rattle.graph.specs.RowBits.{row_bit}
use Rattle.graph.specs.Excluding.{excluding}
use Rattle.graph.proofs.exclusions.Exclusions.settle.Given as goal

-- the rows so far are right
abbrev pub invariant-loop-x : goal.invariant-loop-x
invariant-loop-x l =
    (vec_len l.self.rows ≡ l.x)
    × ((z y : ℕ) → z < l.x → row_bit (vec_items l.self.rows) z y ≡ excluding l.order.rows l.list z y)
