-- The table of refusals: what a fault reports, and what is printed of a text.
use Rattle.std.specs.Prelude.{◌≡◌, ℕ, cond, List, [], ◌∷◌, ◌++◌, Some, None, codes, Option, nat_le}
use Rattle.rules.specs.declared.sheet.Fit.{Fit}
use Rattle.rules.specs.declared.sheet.Fit.TheVariants.{First, Best}
use Rattle.rules.specs.Fitting.{Rule, IsFirstFit, IsBestFit, layered}
use Rattle.rules.specs.Fabrics.{fabric_of}
use Rattle.rules.specs.Sheets.{Sheet}
use Rattle.rules.specs.Layouts.{NoRoom}
use Rattle.rules.specs.Maps.{MapOf}
use Rattle.rules.specs.Reading.{Gives, accepted, fault}
use Rattle.rules.specs.Spelling.{number}

-- number and layer always stand, the others where they mean something; the layers are 1 text, 2 graph,
-- 3 placing and map, place, footprint and fit questions, 4 run, lean order and other questions, 5 output
pub record Report : Type 0 where
  pub number : ℕ
  pub layer : ℕ
  pub line : Option ℕ
  pub object : Option ℕ
  pub bank : Option ℕ

-- a fault of reading: of the text up to number 3, of the graph above; its line stands except for number 1
abbrev pub of_reading : ℕ → Option ℕ → Report
of_reading n at = record { number = n; layer = cond (nat_le n 3) 1 2; line = at; object = None; bank = None }

-- no gap holds the object: number 11 of layer 3, where object and bank stand
abbrev pub of_placing : ℕ → ℕ → Report
of_placing x b = record { number = 11; layer = 3; line = None; object = Some x; bank = Some b }

-- a number, or `-` where it does not stand
abbrev pub field : Option ℕ → List ℕ
field None = codes " -"
field (Some n) = number n

-- `E number layer line object bank`
abbrev pub fault_line : Report → List ℕ
fault_line r = codes "E" ++ (number r.number ++ (number r.layer ++ (field r.line ++ (field r.object ++ (field r.bank ++ 10 ∷ [])))))

-- the rule is the one that a fit names
abbrev pub Named : Fit → Rule → Type 0
Named First rule = IsFirstFit rule
Named Best rule = IsBestFit rule

-- the sheet's own rule: the one that its fit names, under its layers
pub record OwnRule (s : Sheet) (rule : Rule) : Type 0 where
  pub base : Rule
  pub named : Named s.fit base
  pub is : rule ≡ layered base s.layers

-- what is printed of a text: the fault of its reading, the fault of its placing, or its map
pub data Prints (text : List ℕ) : List ℕ → Type 0 where
  badly_read : (n : ℕ) (at : Option ℕ) → Gives text (fault n at) → Prints text (fault_line (of_reading n at))
  without_room : (s : Sheet) (rule : Rule) (b x : ℕ) → Gives text (accepted s) → OwnRule s rule →
      NoRoom s (fabric_of s.machine) rule b x → Prints text (fault_line (of_placing x b))
  as_map : (s : Sheet) (rule : Rule) (out : List ℕ) → Gives text (accepted s) → OwnRule s rule →
      MapOf s (fabric_of s.machine) rule out → Prints text out
