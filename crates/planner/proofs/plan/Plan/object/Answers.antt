use Rattle.planner.specs.Replies.{sheet_of}
use Rattle.planner.proofs.Replying.{object_told}
use Rattle.planner.proofs.plan.Plan.object.Goals as goal

pub returns : goal.returns
returns c = object_told (sheet_of c.args.self.now) c.args.x c.object.result c.ok_or.result c.object.ensures c.ok_or.ensures.value
