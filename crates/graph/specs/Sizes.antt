-- The objects of a sheet as a list that is kept.

use Rattle.std.specs.Prelude.{ℕ, zero, List, ◌++◌, map, slice_index}
use Rattle.rules.specs.declared.memory.Object.{Object}
use Rattle.rules.specs.declared.sheet.Actor.{Actor}
use Rattle.rules.specs.declared.sheet.Link.{Link}
use Rattle.rules.specs.Objects.{areas, buffers}

-- the size of object x, 0 where there is none
abbrev pub size_at : List Object → ℕ → ℕ
size_at objects x = slice_index (map (λ (o : Object). o.size) objects) x

-- the objects that actors and links make
abbrev pub objects_in : List Actor → List Link → List Object
objects_in actors links = areas zero actors ++ buffers links
