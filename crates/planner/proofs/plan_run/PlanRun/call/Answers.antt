use Rattle.std.proofs.Common.{refl}
use Rattle.std.proofs.lemmas.Result.{err_from_is_err_and}
use Rattle.planner.specs.Running.{CalledOn}
use Rattle.planner.proofs.plan_run.PlanRun.call.Goals as goal

pub returns-in_err-call : goal.returns-in_err-call
returns-in_err-call c =
    let e = err_from_is_err_and c.from_residual.result c.from_residual.ensures.1 in
    rw (e.1, e.2)
    (CalledOn.refused refl c.in_err-call.ensures)

pub returns : goal.returns
returns c = CalledOn.granted refl c.in_ok-call.ensures
