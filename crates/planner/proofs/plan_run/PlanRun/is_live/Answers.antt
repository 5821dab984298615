use Rattle.planner.proofs.Runs.{live_told}
use Rattle.planner.proofs.plan_run.PlanRun.is_live.Goals as goal

pub returns : goal.returns
returns c = live_told c.args.self.now c.args.x c.is_live.result c.ok_or.result c.is_live.ensures c.ok_or.ensures.value
