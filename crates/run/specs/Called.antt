-- What a call does to a run, and what a run answers.
use Rattle.std.specs.Prelude.{◌≡◌, ℕ, ◌<◌, Bool, ◌≢◌, IfErr, Some, None, Option, Result}
use Rattle.rules.specs.Sheets.{Sheet, actor_count}
use Rattle.rules.specs.Objects.{object_count}
use Rattle.rules.specs.Runs as runs
use Rattle.rules.specs.Lives.{Live}
use Rattle.rules.specs.Lean.{live_bytes}
use Rattle.graph.specs.Held.{sheet_held}
use Rattle.graph.specs.Questions.{SaysWhether}
use Rattle.run.specs.declared.faults.RunFault.{RunFault}
use Rattle.run.specs.declared.faults.RunFault.TheVariants.{AlreadyStarted, NotRunning}
use Rattle.run.specs.declared.phase.Phase.{Phase}
use Rattle.run.specs.declared.sheet_run.Run.{Run}
use Rattle.run.specs.Numbers.{answer}
use Rattle.run.specs.Records.{as_phase}
use Rattle.run.specs.Views.{Shows, Steps, Leaves}

-- the sheet that a run is of
abbrev pub sheet_of : Run → Sheet
sheet_of r = sheet_held r.graph.now.sheet

-- the run is in the state
abbrev pub InState : Run → runs.State → Type 0
InState r st = Shows (sheet_of r) r.records r.order.rows st

-- of the two faults with one number, a start has one and a finish the other
abbrev pub Suits : runs.Call → RunFault → Type 0
Suits (runs.start a) f = f ≢ NotRunning
Suits (runs.finish a) f = f ≢ AlreadyStarted
Suits (runs.order a b) f = Unit {0}
Suits runs.round f = Unit {0}

-- the graph stays; from every state that the run is in, the call leads by the law of runs to one that it is in afterwards
pub record Called (r : Run) (c : runs.Call) (told : Result Unit RunFault) (r' : Run) : Type 0 where
  pub graph : r'.graph.now ≡ r.graph.now
  pub steps : Steps (sheet_of r) c (answer told) r.records r.order.rows r'.records r'.order.rows
  pub leaves : Leaves (answer told) c r.records r.order.rows r'.records r'.order.rows
  pub suits : IfErr told (Suits c)

-- the phase of actor a; none exactly where there is no such actor
abbrev pub IsPhase : Sheet → runs.State → ℕ → Option Phase → Type 0
IsPhase s st a None = a < actor_count s → ⊥
IsPhase s st a (Some p) = (a < actor_count s) × (as_phase p ≡ runs.phase st a)

abbrev pub SaysPhase : Run → ℕ → Option Phase → Type 0
SaysPhase r a p = (st : runs.State) → InState r st → IsPhase (sheet_of r) st a p

-- whether object x is live; none exactly where there is no such object
abbrev pub SaysLive : Run → ℕ → Option Bool → Type 0
SaysLive r x b = (st : runs.State) → InState r st → SaysWhether (x < object_count (sheet_of r)) (Live (sheet_of r) st x) b

-- the total size of the live objects
abbrev pub SaysBytes : Run → ℕ → Type 0
SaysBytes r n = (st : runs.State) → InState r st → n ≡ live_bytes (sheet_of r) st
