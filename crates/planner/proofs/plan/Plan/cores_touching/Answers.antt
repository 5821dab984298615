use Rattle.planner.specs.Replies.{sheet_of}
use Rattle.planner.proofs.Replying.{touch_told}
use Rattle.planner.proofs.plan.Plan.cores_touching.Goals as goal

pub returns : goal.returns
returns c = touch_told (sheet_of c.args.self.now) c.args.x c.cores_touching.result c.ok_or.result c.cores_touching.ensures c.ok_or.ensures.value
