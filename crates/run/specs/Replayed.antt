-- A list of calls with the answer of each.
use Rattle.std.specs.Prelude.{◌≡◌, ◌<◌, ◌≤◌, List, [], ◌∷◌, map, length, take, drop, IfErr, Ok, Err, Result}
use Rattle.rules.specs.Sheets.{Sheet}
use Rattle.rules.specs.Runs as runs
use Rattle.graph.specs.declared.sheet_graph.Graph.{Graph}
use Rattle.graph.specs.Held.{sheet_held}
use Rattle.run.specs.declared.call.Call.{Call}
use Rattle.run.specs.declared.call.Call.TheVariants.{Start, Finish, Order, Round}
use Rattle.run.specs.declared.faults.RunFault.{RunFault}
use Rattle.run.specs.declared.faults.RunFault.TheVariants.{ShortMemory}
use Rattle.run.specs.declared.sheet_run.Run.{Run}
use Rattle.run.specs.Numbers.{answer}
use Rattle.run.specs.Called.{InState, Suits}

abbrev pub as_call : Call → runs.Call
as_call (Start a) = runs.start a
as_call (Finish a) = runs.finish a
as_call (Order a b) = runs.order a b
as_call Round = runs.round

-- the calls lead from one state to another, and these are their answers
pub data AnswersOf (s : Sheet) : runs.State → List runs.Call → List runs.Answer → runs.State → Type 0 where
  silent : {st : runs.State} → AnswersOf s st [] [] st
  told : {st mid end : runs.State} {c : runs.Call} {cs : List runs.Call} {a : runs.Answer} {more : List runs.Answer} →
      runs.Step s st c a mid → AnswersOf s mid cs more end → AnswersOf s st (c ∷ cs) (a ∷ more) end

-- each answer has the fault of its own call
abbrev pub Suited : List Call → List (Result Unit RunFault) → Type 0
Suited [] [] = Unit {0}
Suited [] (a ∷ more) = ⊥
Suited (c ∷ cs) [] = ⊥
Suited (c ∷ cs) (a ∷ more) = IfErr a (Suits (as_call c)) × Suited cs more

-- the run is of the graph, in a state that the calls reach from a fresh run with these answers
pub record Replayed (g : Graph) (calls : List Call) (answers : List (Result Unit RunFault)) (r : Run) : Type 0 where
  pub graph : r.graph.now ≡ g
  pub state : runs.State
  pub reached : runs.Reached (sheet_held g.sheet) (map as_call calls) state
  pub answered : AnswersOf (sheet_held g.sheet) (runs.fresh (sheet_held g.sheet)) (map as_call calls) (map answer answers) state
  pub suited : Suited calls answers
  pub in_state : InState r state

-- the answers stand in front and the rest of the memory stays; refused exactly where it is too short, and then nothing is written
abbrev pub Replays : Graph → List Call → List (Result Unit RunFault) → List (Result Unit RunFault) → Result Run RunFault → Type 0
Replays g calls old new (Ok r) =
    (length calls ≤ length old) × Replayed g calls (take (length calls) new) r × (drop (length calls) new ≡ drop (length calls) old)
Replays g calls old new (Err f) = (f ≡ ShortMemory) × (length old < length calls) × (new ≡ old)
