use Rattle.std.proofs.Common.{◌<◌}
use Rattle.rules.specs.Order.{Before}
use Rattle.rules.specs.Sheets.{actor_count}
use Rattle.planner.specs.Replies.{sheet_of}
use Rattle.planner.proofs.Replying.{whether_told}
use Rattle.planner.proofs.plan.Plan.is_before.Goals as goal

pub returns : goal.returns
returns c =
    let s = sheet_of c.args.self.now in
    whether_told ((c.args.a < actor_count s) × (c.args.b < actor_count s)) (Before s c.args.a c.args.b) c.is_before.result c.ok_or.result c.is_before.ensures c.ok_or.ensures.value
