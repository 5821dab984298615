-- What a run answers is said of the plan's sheet.
use Rattle.std.proofs.Common.{◌≡◌, ℕ, ◌<◌, Bool, true, false, Some, None, Option, Result, sym, ap, subst, ⊎_elim, arith}
use Rattle.std.proofs.lemmas.Bool.{cases_lt}
use Rattle.std.specs.Option.{ok_or}
use mathlib.Core.HLevel.{⊥_prop}
use mathlib.Core.Logic.{∥∥₁_elim}
use Rattle.rules.specs.Sheets.{actor_count}
use Rattle.rules.specs.Objects.{object_count}
use Rattle.rules.specs.Runs as runs
use Rattle.rules.specs.Lives.{Live}
use Rattle.graph.specs.declared.sheet_graph.Graph.{Graph}
use Rattle.graph.specs.Held.{sheet_held}
use Rattle.run.specs.declared.phase.Phase.{Phase}
use Rattle.run.specs.declared.sheet_run.Run.{Run}
use Rattle.run.specs.Called.{sheet_of as run_of, InState, SaysPhase, SaysLive}
use Rattle.planner.specs.declared.faults.JobFault.{JobFault}
use Rattle.planner.specs.declared.faults.JobFault.TheVariants.{Unknown}
use Rattle.planner.specs.declared.plan_run.PlanRun.{PlanRun}
use Rattle.planner.specs.Replies.{Replies, sheet_of}
use Rattle.planner.specs.Running.{InPhase, SaysIfLive}

-- a run is in some state
some_state : (r : Run) → ((st : runs.State) → InState r st → ⊥) → ⊥
some_state r never = ∥∥₁_elim r.reached ⊥_prop (λ known. never known.state known.shows)

-- the run is of the plan's sheet
pub same_sheet : (r : PlanRun) → run_of r.run ≡ sheet_of r.plan.now
same_sheet r = ap (λ (g : Graph). sheet_held g.sheet) r.of_plan

-- what is known in every state of a run is known
below : (r : Run) (n m : ℕ) → ((st : runs.State) → InState r st → n < m) → n < m
below r n m always = ⊎_elim (λ l. l) (λ past. absurd (some_state r (λ st sh. let l = always st sh in omega arith))) (cases_lt n m)

pub phase_told : (r : PlanRun) (a : ℕ) (o : Option Phase) (answer : Result Phase JobFault) → SaysPhase r.run a o → answer ≡ ok_or o Unknown →
    Replies (a < actor_count (sheet_of r.plan.now)) (InPhase r a) answer
phase_told r a None answer says e =
    subst (Replies (a < actor_count (sheet_of r.plan.now)) (InPhase r a)) (sym e)
    (Replies.unknown (λ l. some_state r.run (λ st sh. says st sh (subst (λ s. a < actor_count s) (sym (same_sheet r)) l))))
phase_told r a (Some p) answer says e =
    subst (Replies (a < actor_count (sheet_of r.plan.now)) (InPhase r a)) (sym e)
    (Replies.told (subst (λ s. a < actor_count s) (same_sheet r) (below r.run a (actor_count (run_of r.run)) (λ st sh. (says st sh).0))) (λ st sh. (says st sh).1))

pub live_told : (r : PlanRun) (x : ℕ) (o : Option Bool) (answer : Result Bool JobFault) → SaysLive r.run x o → answer ≡ ok_or o Unknown →
    Replies (x < object_count (sheet_of r.plan.now)) (SaysIfLive r x) answer
live_told r x None answer says e =
    subst (Replies (x < object_count (sheet_of r.plan.now)) (SaysIfLive r x)) (sym e)
    (Replies.unknown (λ l. some_state r.run (λ st sh. says st sh (subst (λ s. x < object_count s) (sym (same_sheet r)) l))))
live_told r x (Some true) answer says e =
    subst (Replies (x < object_count (sheet_of r.plan.now)) (SaysIfLive r x)) (sym e)
    (Replies.told (subst (λ s. x < object_count s) (same_sheet r) (below r.run x (object_count (run_of r.run)) (λ st sh. (says st sh).0)))
    (λ st sh. subst (λ s. Live s st x) (same_sheet r) (says st sh).1))
live_told r x (Some false) answer says e =
    subst (Replies (x < object_count (sheet_of r.plan.now)) (SaysIfLive r x)) (sym e)
    (Replies.told (subst (λ s. x < object_count s) (same_sheet r) (below r.run x (object_count (run_of r.run)) (λ st sh. (says st sh).0)))
    (λ st sh l. (says st sh).1 (subst (λ s. Live s st x) (sym (same_sheet r)) l)))
