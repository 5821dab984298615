-- How a sheet is written: one way only.
use Rattle.std.specs.Prelude.{ℕ, ◌≤◌, List, [], ◌∷◌, ◌++◌, codes, decimal}
use Rattle.rules.specs.declared.sheet.Kind.{Kind}
use Rattle.rules.specs.declared.sheet.Kind.TheVariants.{Unified, Private, Hybrid}
use Rattle.rules.specs.declared.sheet.Fit.{Fit}
use Rattle.rules.specs.declared.sheet.Fit.TheVariants.{First, Best}
use Rattle.rules.specs.declared.sheet.Layer.TheVariants.{LowLine, SnugLimit}
use Rattle.rules.specs.declared.sheet.Fifo.{Fifo}
use Rattle.rules.specs.declared.sheet.Link.TheVariants.{Plain, Delayed, Ordered}
use Rattle.rules.specs.declared.sheet.Entry.{Entry}
use Rattle.rules.specs.declared.sheet.Entry.TheVariants.{OnMachine, ByFit, WithLayer, NextActor, NextLink}
use Rattle.rules.specs.Sheets.{Sheet, entries}

-- a number field: one space, and decimal digits without a leading zero
abbrev pub number : ℕ → List ℕ
number n = 32 ∷ decimal n

-- the field that names a kind
abbrev pub kind_field : Kind → List ℕ
kind_field Unified = codes " U"
kind_field Private = codes " V"
kind_field Hybrid = codes " H"

-- the field that names a fit rule
abbrev pub fit_field : Fit → List ℕ
fit_field First = codes " F"
fit_field Best = codes " B"

-- the fields of a FIFO
abbrev pub fifo_fields : Fifo → List ℕ
fifo_fields f = number f.from ++ (number f.to ++ number f.size)

-- the bytes of an entry's line, without its line end
abbrev pub spell : Entry → List ℕ
spell (OnMachine m) =
    codes "M" ++ (kind_field m.kind ++ (number m.cores ++ (number m.shared ++ (number m.private ++ number m.grain))))
spell (ByFit f) = codes "P" ++ fit_field f
spell (WithLayer (LowLine n)) = codes "L" ++ number n
spell (WithLayer (SnugLimit n)) = codes "K" ++ number n
spell (NextActor a) = codes "A" ++ (number a.core ++ number a.work)
spell (NextLink (Plain f)) = codes "F" ++ fifo_fields f
spell (NextLink (Delayed f)) = codes "D" ++ fifo_fields f
spell (NextLink (Ordered q)) = codes "S" ++ (number q.first ++ number q.second)

-- a number that can be written: a larger one is badly written
abbrev pub Short : ℕ → Type 0
Short n = n ≤ 4294967295

-- every number of a FIFO can be written
abbrev pub ShortFifo : Fifo → Type 0
ShortFifo f = Short f.from × Short f.to × Short f.size

-- every number of an entry can be written
abbrev pub Writable : Entry → Type 0
Writable (OnMachine m) = Short m.cores × Short m.shared × Short m.private × Short m.grain
Writable (ByFit f) = Unit {0}
Writable (WithLayer (LowLine n)) = Short n
Writable (WithLayer (SnugLimit n)) = Short n
Writable (NextActor a) = Short a.core × Short a.work
Writable (NextLink (Plain f)) = ShortFifo f
Writable (NextLink (Delayed f)) = ShortFifo f
Writable (NextLink (Ordered q)) = Short q.first × Short q.second

-- the line with its end
abbrev pub line : Entry → List ℕ
line e = spell e ++ (10 ∷ [])

-- lines one after the other
abbrev pub written : List Entry → List ℕ
written [] = []
written (e ∷ es) = line e ++ written es

-- the first line, without its end
abbrev pub header : List ℕ
header = codes "LGM 1"

-- the one text of a sheet
abbrev pub spelling : Sheet → List ℕ
spelling s = header ++ (10 ∷ written (entries s))
