use Rattle.planner.proofs.Runs.{phase_told}
use Rattle.planner.proofs.plan_run.PlanRun.phase.Goals as goal

pub returns : goal.returns
returns c = phase_told c.args.self.now c.args.a c.phase.result c.ok_or.result c.phase.ensures c.ok_or.ensures.value
