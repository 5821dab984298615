-- What reading a text leaves and answers.
use Rattle.std.specs.Prelude.{◌≡◌, ℕ, List, Some, None, Ok, Err, Result}
use Rattle.text.specs.declared.faults.TextFault.{TextFault}
use Rattle.text.specs.declared.faults.TextFault.TheVariants.{TooLong, NoHeader, Malformed}
use Rattle.rules.specs.Sheets.{Sheet}
use Rattle.rules.specs.Drafts.{nothing, sheet}
use Rattle.rules.specs.Reading.{Outcome, accepted, fault, Reads, Gives}
use Rattle.graph.specs.declared.faults.GraphFault.{GraphFault}
use Rattle.graph.specs.declared.faults.GraphFault.TheVariants.{Text, Refused}
use Rattle.graph.specs.declared.stage.Stage.TheVariants.{Blank}
use Rattle.graph.specs.declared.read_sheet.ReadSheet.{ReadSheet}
use Rattle.graph.specs.Taking.{refusal_number, draft_of}

-- what a fault of the text reports
abbrev pub reported_text : TextFault → Outcome
reported_text TooLong = fault 1 None
reported_text NoHeader = fault 2 (Some 1)
reported_text (Malformed at) = fault 3 (Some at)

-- what a fault of reading reports
abbrev pub reported : GraphFault → Outcome
reported (Text f) = reported_text f
reported (Refused f at) = fault (refusal_number f) (Some at)

-- the lines read are those of the whole sheet s
abbrev pub Holds : ReadSheet → Sheet → Type 0
Holds r s = draft_of r ≡ sheet s

-- nothing is read
abbrev pub Empty : ReadSheet → Type 0
Empty r = r.stage ≡ Blank

-- the text is accepted as the sheet that is then held, or has the fault that is reported, and nothing is held
abbrev pub ReadAs : List ℕ → ReadSheet → Result Unit GraphFault → Type 0
ReadAs text after (Ok u) = (s : Sheet) × Holds after s × Gives text (accepted s)
ReadAs text after (Err f) = Gives text (reported f) × Empty after

-- the same of a text, before what a refused one left is forgotten
abbrev pub TextAs : List ℕ → ReadSheet → Result Unit GraphFault → Type 0
TextAs text after (Ok u) = (s : Sheet) × Holds after s × Gives text (accepted s)
TextAs text after (Err f) = Gives text (reported f)

-- and of the lines behind the header
abbrev pub LinesAs : List ℕ → ReadSheet → Result Unit GraphFault → Type 0
LinesAs text after (Ok u) = (s : Sheet) × Holds after s × Reads nothing 2 text (accepted s)
LinesAs text after (Err f) = Reads nothing 2 text (reported f)
