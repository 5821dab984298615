-- The sample sheets, as values and as texts.
use Rattle.std.specs.Prelude.{ℕ, ◌⊎◌, List, [], ◌∷◌, ◌++◌, codes}
use Prim.Native.String.{String}
use Rattle.rules.specs.declared.memory.Stretch.{Stretch}
use Rattle.rules.specs.declared.sheet.Kind.TheVariants.{Unified, Hybrid}
use Rattle.rules.specs.declared.sheet.Fit.TheVariants.{First}
use Rattle.rules.specs.declared.sheet.Machine.{Machine}
use Rattle.rules.specs.declared.sheet.Actor.{Actor}
use Rattle.rules.specs.declared.sheet.Link.{Link}
use Rattle.rules.specs.declared.sheet.Link.TheVariants.{Plain, Delayed, Ordered}
use Rattle.rules.specs.Lists.{◌∈◌}
use Rattle.rules.specs.Sheets.{Sheet}

-- the bytes of lines, each with its end
abbrev pub lines : List String → List ℕ
lines [] = []
lines (l ∷ ls) = codes l ++ (10 ∷ lines ls)

-- two cores and one bank, of this capacity and grain
abbrev pub one_bank : ℕ → ℕ → Machine
one_bank capacity grain = record { kind = Unified; cores = 2; shared = capacity; private = 0; grain = grain }

-- two cores, each with a bank of its own, and one bank for both
abbrev pub three_banks : Machine
three_banks = record { kind = Hybrid; cores = 2; shared = 64; private = 64; grain = 1 }

-- an actor by its core and working area
abbrev pub actor : ℕ → ℕ → Actor
actor core work = record { core = core; work = work }

-- a FIFO from a to b
abbrev pub fifo : ℕ → ℕ → ℕ → Link
fifo a b size = Plain (record { from = a; to = b; size = size })

-- one with initial tokens
abbrev pub delayed_fifo : ℕ → ℕ → ℕ → Link
delayed_fifo a b size = Delayed (record { from = a; to = b; size = size })

-- actor a runs before actor b
abbrev pub ordering : ℕ → ℕ → Link
ordering a b = Ordered (record { first = a; second = b })

-- sheet A on a machine, with more links
abbrev pub A_on : Machine → List Link → Sheet
A_on machine more = record {
  machine = machine;
  fit = First;
  layers = [];
  actors = actor 0 0 ∷ actor 0 0 ∷ actor 1 0 ∷ actor 1 4 ∷ [];
  links = fifo 0 1 10 ∷ fifo 1 2 6 ∷ fifo 2 3 8 ∷ fifo 0 2 5 ∷ more;
}

-- sheet A: one bank of 64 bytes, grain 1
abbrev pub A : Sheet
A = A_on (one_bank 64 1) []

-- its text, with the line of the machine and more lines
abbrev pub A_text : String → List String → List ℕ
A_text machine more =
    lines ("LGM 1" ∷ machine ∷ "P F" ∷ "A 0 0" ∷ "A 0 0" ∷ "A 1 0" ∷ "A 1 4" ∷ "F 0 1 10" ∷ "F 1 2 6" ∷ "F 2 3 8" ∷ "F 0 2 5" ∷ more)

-- a sheet of two actors on core 0 that have working areas, with links
abbrev pub two_areas : ℕ → ℕ → List Link → Sheet
two_areas one other links =
    record { machine = one_bank 64 1; fit = First; layers = []; actors = actor 0 one ∷ actor 0 other ∷ []; links = links }

-- its text, by the lines behind that of the fit
abbrev pub on_core_0 : List String → List ℕ
on_core_0 more = lines ("LGM 1" ∷ "M U 2 64 0 1" ∷ "P F" ∷ more)

-- sheet B, with links
abbrev pub B_with : List Link → Sheet
B_with links = two_areas 4 6 links

-- the pair is listed, in one order or the other
abbrev pub Listed : ℕ → ℕ → List (ℕ × ℕ) → Type 0
Listed x y pairs = ◌∈◌ {X = ℕ × ℕ} (x, y) pairs ⊎ ◌∈◌ {X = ℕ × ℕ} (y, x) pairs

-- the exclusions of A
abbrev pub A_pairs : List (ℕ × ℕ)
A_pairs = (0, 3) ∷ (1, 2) ∷ (1, 4) ∷ (2, 3) ∷ (2, 4) ∷ (3, 4) ∷ []

-- the gap from a up to b
abbrev pub gap : ℕ → ℕ → Stretch
gap a b = record { start = a; end = b }

-- of 10, 6 and 60 bytes
abbrev pub three_gaps : List Stretch
three_gaps = gap 0 10 ∷ gap 20 26 ∷ gap 40 100 ∷ []

-- of which the first starts off the grain of 8
abbrev pub off_grain_gaps : List Stretch
off_grain_gaps = gap 1 16 ∷ gap 32 44 ∷ []

-- one that holds 5 bytes with 5 left over, and one with 1
abbrev pub roomy_and_snug : List Stretch
roomy_and_snug = gap 0 10 ∷ gap 40 46 ∷ []

-- two of 10 bytes
abbrev pub equal_gaps : List Stretch
equal_gaps = gap 0 10 ∷ gap 20 30 ∷ []
