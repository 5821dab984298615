use Rattle.std.proofs.Common.{length}
use Rattle.std.proofs.lemmas.Result.{err_from_is_err_and}
use Rattle.planner.proofs.Joined.{badly, read_placed}
use Rattle.planner.proofs.plan.Plan.plan_with.Goals as goal

pub returns-in_err-read : goal.returns-in_err-read
returns-in_err-read g c =
    let e = err_from_is_err_and c.from_residual.result c.from_residual.ensures.1 in
    rw (e.1, e.2)
    (badly c.args.text.now (g.F.Fabric.means c.args.fabric.now) (g.R.FitRule.answers c.args.rule.now) (length c.args.memory.now) c.read.new.self c.in_err-read.field-0.0 c.in_err-read.ensures.read c.in_err-read.ensures.unplaced)

pub returns : goal.returns
returns g c =
    read_placed c.args.text.now (g.F.Fabric.means c.args.fabric.now) (g.R.FitRule.answers c.args.rule.now) (length c.args.memory.now) c.read.new.self c.place_with.new.self c.place_with.result c.in_ok-read.ensures.read c.in_ok-read.ensures.unplaced c.place_with.ensures
