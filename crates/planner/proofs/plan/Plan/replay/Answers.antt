use Rattle.std.proofs.Common.{refl}
use Rattle.std.proofs.lemmas.Result.{err_from_is_err_and}
use Rattle.planner.specs.Running.{ReplaysOn}
use Rattle.planner.proofs.plan.Plan.replay.Goals as goal

pub returns-in_err-run : goal.returns-in_err-run
returns-in_err-run c =
    let e = err_from_is_err_and c.from_residual.result c.from_residual.ensures.1 in
    rw (e.1, e.2)
    (ReplaysOn.refused c.in_err-run.ensures)

pub returns : goal.returns
returns c = ReplaysOn.replayed refl c.in_ok-run.ensures
