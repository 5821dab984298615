-- What a fault reports: number, layer, line, object and bank.

use Rattle.rules.specs.Refusals as table
use Rattle.std.specs.Prelude.{ℕ, List, [], ◌∷◌, ◌++◌, Some, None, decimal, Option}
use Rattle.text.specs.declared.faults.TextFault.{TextFault}
use Rattle.text.specs.declared.faults.TextFault.TheVariants.{TooLong, NoHeader, Malformed}
use Rattle.graph.specs.declared.faults.GraphFault.{GraphFault}
use Rattle.graph.specs.declared.faults.GraphFault.TheVariants.{Text, Refused}
use Rattle.graph.specs.Taking.{refusal_number}
use Rattle.layout.specs.declared.faults.LayoutFault.{LayoutFault}
use Rattle.layout.specs.declared.faults.LayoutFault.TheVariants.{NoGap as Unheld, ShortMemory as Short}
use Rattle.fit.specs.Numbers.{number_of}
use Rattle.lean.specs.declared.faults.LeanFault.{LeanFault}
use Rattle.lean.specs.declared.faults.LeanFault.TheVariants.{Empty as NoActors, ShortMemory as NoRoom}
use Rattle.run.specs.declared.faults.RunFault.{RunFault}
use Rattle.run.specs.declared.faults.RunFault.TheVariants.{Unknown as UnknownActor, EqualEnds, Against, AlreadyStarted, NotRunning, Early, Late, RoundEarly, ShortMemory as ShortAnswers}
use Rattle.planner.specs.declared.faults.JobFault.{JobFault}
use Rattle.planner.specs.declared.faults.JobFault.TheVariants.{Graph, Empty, Unplaced, LacksCore, NoSuchPlace, NoGap, Asked, ShortMemory, NoSheet, Run, Unknown}
use Rattle.planner.specs.declared.faults.Report.{Report}

-- a fault of a line
abbrev pub at_line : ℕ → ℕ → Option ℕ → Report
at_line n layer at = record { number = n; layer = layer; line = at; object = None; bank = None }

-- layer 1: the text
abbrev pub report_text : TextFault → Report
report_text TooLong = at_line 1 1 None
report_text NoHeader = at_line 2 1 (Some 1)
report_text (Malformed at) = at_line 3 1 (Some at)

-- layer 2: the graph
abbrev pub report_graph : GraphFault → Report
report_graph (Text f) = report_text f
report_graph (Refused f at) = at_line (refusal_number f) 2 (Some at)

-- why objects are not placed
abbrev pub fault_of : LayoutFault → JobFault
fault_of (Unheld object bank) = NoGap object bank
fault_of Short = ShortMemory

-- why there is no lean order
abbrev pub fault_of_lean : LeanFault → JobFault
fault_of_lean NoActors = NoSheet
fault_of_lean NoRoom = ShortMemory

-- a refused call of a run, in layer 4; want of memory for its answers is layer 5
abbrev pub report_run : RunFault → Report
report_run UnknownActor = at_line 6 4 None
report_run EqualEnds = at_line 8 4 None
report_run Against = at_line 10 4 None
report_run AlreadyStarted = at_line 12 4 None
report_run NotRunning = at_line 12 4 None
report_run Early = at_line 13 4 None
report_run Late = at_line 14 4 None
report_run RoundEarly = at_line 15 4 None
report_run ShortAnswers = at_line 16 5 None

-- layer 3: placing and what is asked of the places; layer 4: runs and other questions; layer 5: output
abbrev pub report_of : JobFault → Report
report_of (Graph f) = report_graph f
report_of Empty = at_line 4 3 None
report_of Unplaced = at_line 4 3 None
report_of LacksCore = at_line 6 3 None
report_of NoSuchPlace = at_line 6 3 None
report_of (Asked f) = at_line (number_of f) 3 None
report_of NoSheet = at_line 4 4 None
report_of (Run f) = report_run f
report_of Unknown = at_line 6 4 None
report_of (NoGap object bank) = record { number = 11; layer = 3; line = None; object = Some object; bank = Some bank }
report_of ShortMemory = at_line 16 5 None

-- a number, or `-` where it does not stand
abbrev pub field_text : Option ℕ → List ℕ
field_text None = 45 ∷ []
field_text (Some n) = decimal n

-- `E number layer line object bank`
abbrev pub fault_text : Report → List ℕ
fault_text r =
    69 ∷ (32 ∷ (decimal r.number ++ (32 ∷ (decimal r.layer ++ (32 ∷ (field_text r.line ++ (32 ∷ (field_text r.object
    ++ (32 ∷ field_text r.bank)))))))))

-- a report as the table has it
abbrev pub as_tabled : Report → table.Report
as_tabled r = record { number = r.number; layer = r.layer; line = r.line; object = r.object; bank = r.bank }
