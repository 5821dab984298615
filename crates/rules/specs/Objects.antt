-- The memory objects of a sheet, numbered from 0 as their lines come.
use Rattle.std.specs.Prelude.{ℕ, zero, suc, ◌^◌, Bool, true, false, cond, List, [], ◌∷◌, ◌++◌, length, ◌==◌, bit_or, slice_index_or}
use Rattle.rules.specs.declared.memory.Object.{Object}
use Rattle.rules.specs.declared.sheet.Actor.{Actor}
use Rattle.rules.specs.declared.sheet.Fifo.{Fifo}
use Rattle.rules.specs.declared.sheet.Link.{Link}
use Rattle.rules.specs.declared.sheet.Link.TheVariants.{Plain, Delayed, Ordered}
use Rattle.rules.specs.Sheets.{Sheet, core}

-- the working area of actor a; work 0 means none
abbrev pub area_of : ℕ → ℕ → List Object
area_of a work = cond (work == 0) [] (record { producer = a; consumer = a; size = work; delayed = false } ∷ [])

-- the working areas of the actors from number a on
abbrev pub areas : ℕ → List Actor → List Object
areas a [] = []
areas a (x ∷ xs) = area_of a x.work ++ areas (suc a) xs

-- the object of a FIFO, which is delayed if it has initial tokens
abbrev pub buffer : Fifo → Bool → Object
buffer f delayed = record { producer = f.from; consumer = f.to; size = f.size; delayed = delayed }

-- the FIFOs among the links
abbrev pub buffers : List Link → List Object
buffers [] = []
buffers (Plain f ∷ ks) = buffer f false ∷ buffers ks
buffers (Delayed f ∷ ks) = buffer f true ∷ buffers ks
buffers (Ordered q ∷ ks) = buffers ks

abbrev pub objects : Sheet → List Object
objects s = areas zero s.actors ++ buffers s.links

abbrev pub object_count : Sheet → ℕ
object_count s = length (objects s)

-- object number x; what it is at a number that no object has is never asked
abbrev pub object : Sheet → ℕ → Object
object s x = slice_index_or (objects s) x (record { producer = 0; consumer = 0; size = 0; delayed = false })

abbrev pub size : Sheet → ℕ → ℕ
size s x = (object s x).size

-- its first and last actor: a FIFO's producer and consumer, a working area's own actor
abbrev pub first : Sheet → ℕ → ℕ
first s x = (object s x).producer

abbrev pub last : Sheet → ℕ → ℕ
last s x = (object s x).consumer

-- a FIFO with initial tokens is live at all times
abbrev pub always_live : Sheet → ℕ → Bool
always_live s x = (object s x).delayed

-- the cores that touch it, as a set: those of its producer and consumer
abbrev pub touching : Sheet → ℕ → ℕ
touching s x = bit_or (2 ^ core s (first s x)) (2 ^ core s (last s x))
