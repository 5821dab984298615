-- Exclusion, worked out from rows of the order, and kept in rows.
use Rattle.std.specs.Prelude.{ℕ, Bool, false, not, ◌&&◌, ◌||◌, List, length, ◌==◌, nat_lt, slice_index_or}
use Rattle.rules.specs.declared.memory.Object.{Object}
use Rattle.graph.specs.Rows.{before}

-- whether the lives of two objects never meet
abbrev pub apart : List ℕ → Object → Object → Bool
apart rows x y =
    not x.delayed && (not y.delayed && (before rows x.consumer y.producer || before rows y.consumer x.producer))

-- object x of a list
abbrev pub object_at : List Object → ℕ → Object
object_at objects x = slice_index_or objects x (record { producer = 0; consumer = 0; size = 0; delayed = false })

-- whether x and y are two objects of the list that are not apart
abbrev pub excluding : List ℕ → List Object → ℕ → ℕ → Bool
excluding rows objects x y =
    nat_lt x (length objects) && (nat_lt y (length objects) && (not (y == x) && not (apart rows (object_at objects x) (object_at objects y))))
