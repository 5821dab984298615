use Rattle.std.proofs.Common.{◌<◌}
use Rattle.rules.specs.Exclusion.{Excludes}
use Rattle.rules.specs.Objects.{object_count}
use Rattle.planner.specs.Replies.{sheet_of}
use Rattle.planner.proofs.Replying.{whether_told}
use Rattle.planner.proofs.plan.Plan.are_excluding.Goals as goal

pub returns : goal.returns
returns c =
    let s = sheet_of c.args.self.now in
    whether_told ((c.args.x < object_count s) × (c.args.y < object_count s)) (Excludes s c.args.x c.args.y) c.are_excluding.result c.ok_or.result c.are_excluding.ensures c.ok_or.ensures.value
