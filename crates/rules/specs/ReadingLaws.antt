-- The laws of reading.
use Rattle.std.specs.Prelude.{◌≡◌, ℕ, ◌↔◌, List, Some}
use Rattle.rules.specs.declared.sheet.Entry.{Entry}
use Rattle.rules.specs.Fabrics.{Meaning, fabric_of}
use Rattle.rules.specs.Sheets.{Sheet}
use Rattle.rules.specs.Order.{OrderedSheet}
use Rattle.rules.specs.Layouts.{Lawful, RunsOn, Placeable}
use Rattle.rules.specs.Spelling.{Writable, spell, spelling}
use Rattle.rules.specs.Fields.{entry_of}
use Rattle.rules.specs.Reading.{Outcome, accepted, Gives, Valid}

-- a line is decided to say e exactly when it is the spelling of e, whose numbers can be written
abbrev pub LinesAreDecided : Type 0
LinesAreDecided = (s : List ℕ) (e : Entry) → (entry_of s ≡ Some e) ↔ (Writable e × (s ≡ spell e))

-- no two entries are written alike
abbrev pub SpellingIsInjective : Type 0
SpellingIsInjective = (d e : Entry) → Writable d → Writable e → spell d ≡ spell e → d ≡ e

-- every text has exactly one outcome
pub record OneOutcome (text : List ℕ) : Type 0 where
  pub outcome : Outcome
  pub gives : Gives text outcome
  pub only : (other : Outcome) → Gives text other → other ≡ outcome

abbrev pub EveryTextHasOneOutcome : Type 0
EveryTextHasOneOutcome = (text : List ℕ) → OneOutcome text

-- a text is accepted as s exactly when s is valid and the text is its spelling
abbrev pub AcceptedTextsAreSpellings : Type 0
AcceptedTextsAreSpellings = (text : List ℕ) (s : Sheet) → Gives text (accepted s) ↔ (Valid s × (text ≡ spelling s))

-- an accepted sheet is ordered, runs on its own fabric, and can be placed on every lawful fabric that has its cores
pub record ValidSheets (s : Sheet) : Type 0 where
  pub ordered : OrderedSheet s
  pub own_cores : RunsOn s (fabric_of s.machine)
  pub own_fabric : Lawful (fabric_of s.machine)
  pub placeable : (m : Meaning) → Lawful m → RunsOn s m → Placeable s m

abbrev pub ValidSheetsCanBePlaced : Type 0
ValidSheetsCanBePlaced = (s : Sheet) → Valid s → ValidSheets s
