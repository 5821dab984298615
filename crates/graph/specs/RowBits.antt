-- Exclusion as it is kept: a row for each object.
use Rattle.std.specs.Prelude.{ℕ, Bool, List, [], map, slice_index_or}
use Rattle.graph.specs.declared.row.Row.{Row}
use Rattle.graph.specs.Rows.{in_row}

-- whether bit y of row x is set
abbrev pub row_bit : List Row → ℕ → ℕ → Bool
row_bit rows x y = in_row (slice_index_or (map (λ (r : Row). r.words) rows) x []) y
