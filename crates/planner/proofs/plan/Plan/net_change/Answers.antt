use Rattle.planner.specs.Replies.{sheet_of}
use Rattle.planner.proofs.Replying.{net_told}
use Rattle.planner.proofs.plan.Plan.net_change.Goals as goal

pub returns : goal.returns
returns c = net_told (sheet_of c.args.self.now) c.args.a c.net_change_of.result c.ok_or.result c.net_change_of.ensures c.ok_or.ensures.value
