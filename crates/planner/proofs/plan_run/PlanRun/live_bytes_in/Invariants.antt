use Rattle.std.proofs.Common.{◌≡◌, ◌*◌, ◌^◌, ◌≤◌}
use Rattle.rules.specs.Lists.{numbers_from, total}
use Rattle.rules.specs.Runs.{State}
use Rattle.run.specs.Called.{InState}
use Rattle.planner.specs.Plans.{places_of}
use Rattle.planner.specs.Replies.{sheet_of}
use Rattle.planner.proofs.Banked.{weight_in}
use Rattle.planner.proofs.plan_run.PlanRun.live_bytes_in.Given as goal

abbrev pub invariant-loop-x : goal.invariant-loop-x
invariant-loop-x l =
    ((st : State) → InState l.self.run st →
    l.sum ≡ total (weight_in (sheet_of l.self.plan.now) st (places_of l.self.plan.now) l.bank) (numbers_from 0 l.x))
    × (l.sum ≤ l.x * 2 ^ 32)
