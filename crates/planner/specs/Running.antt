-- What a call does to a run of a plan, and what the run answers.
use Rattle.std.specs.Prelude.{◌≡◌, ℕ, ◌<◌, Bool, true, cond, ◌&&◌, List, length, Ok, Err, is_some, vec_items, Result}
use Rattle.rules.specs.Lists.{numbers_from, total}
use Rattle.rules.specs.Sheets.{Sheet}
use Rattle.rules.specs.Objects.{object_count, size}
use Rattle.rules.specs.Runs as runs
use Rattle.rules.specs.Lives.{Live}
use Rattle.rules.specs.Layouts.{Layout}
use Rattle.rules.specs.Lean.{is_live, live_bytes}
use Rattle.run.specs.declared.call.Call.{Call}
use Rattle.run.specs.declared.faults.RunFault.{RunFault}
use Rattle.run.specs.declared.phase.Phase.{Phase}
use Rattle.run.specs.Called.{Called, InState}
use Rattle.run.specs.Records.{as_phase}
use Rattle.run.specs.Replayed.{Replays}
use Rattle.planner.specs.declared.faults.JobFault.{JobFault}
use Rattle.planner.specs.declared.faults.JobFault.TheVariants.{Run}
use Rattle.planner.specs.declared.plan.Plan.{Plan}
use Rattle.planner.specs.declared.plan_run.PlanRun.{PlanRun}
use Rattle.planner.specs.Plans.{places_of}
use Rattle.planner.specs.Replies.{Whether, sheet_of}

-- the plan stays, and its run takes the call by the law of runs: granted, or refused with the run's fault
pub data CalledOn (r : PlanRun) (c : runs.Call) (r' : PlanRun) : Result Unit JobFault → Type 0 where
  granted : r'.plan.now ≡ r.plan.now → Called r.run c (Ok tt) r'.run → CalledOn r c r' (Ok tt)
  refused : {f : RunFault} → r'.plan.now ≡ r.plan.now → Called r.run c (Err f) r'.run → CalledOn r c r' (Err (Run f))

-- the calls are made on a fresh run of the plan, as on a run of its graph; refused with the run's fault
pub data ReplaysOn (p : Plan) (calls : List Call) (old new : List (Result Unit RunFault)) : Result PlanRun JobFault → Type 0 where
  replayed : {r : PlanRun} → r.plan.now ≡ p → Replays p.graph calls old new (Ok r.run) → ReplaysOn p calls old new (Ok r)
  refused : {f : RunFault} → Replays p.graph calls old new (Err f) → ReplaysOn p calls old new (Err (Run f))

-- it is the phase of actor a, in every state that the run is in
abbrev pub InPhase : PlanRun → ℕ → Phase → Type 0
InPhase r a p = (st : runs.State) → InState r.run st → as_phase p ≡ runs.phase st a

-- the test says whether object x is live
abbrev pub SaysIfLive : PlanRun → ℕ → Bool → Type 0
SaysIfLive r x b = (st : runs.State) → InState r.run st → Whether (Live (sheet_of r.plan.now) st x) b

-- the total size of the live objects that have a place in bank b
abbrev pub live_bytes_in : Sheet → runs.State → Layout → ℕ → ℕ
live_bytes_in s st places b = total (λ x. cond (is_live s st x && is_some (places b x)) (size s x) 0) (numbers_from 0 (object_count s))

-- the plan is placed, and has the bank
abbrev pub HasBank : Plan → ℕ → Type 0
HasBank p b = (p.layout.placed ≡ true) × (b < length (vec_items p.layout.banks))

-- it is the total size of the live objects
abbrev pub IsTotal : PlanRun → ℕ → Type 0
IsTotal r n = (st : runs.State) → InState r.run st → n ≡ live_bytes (sheet_of r.plan.now) st

-- it is the total size of the live objects that have a place in bank b
abbrev pub IsTotalIn : PlanRun → ℕ → ℕ → Type 0
IsTotalIn r b n = (st : runs.State) → InState r.run st → n ≡ live_bytes_in (sheet_of r.plan.now) st (places_of r.plan.now) b
