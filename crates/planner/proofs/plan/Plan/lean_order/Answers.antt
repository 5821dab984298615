use Rattle.std.proofs.lemmas.Result.{err_from_is_err_and}
use Rattle.planner.specs.Replies.{Lists}
use Rattle.planner.proofs.plan.Plan.lean_order.Goals as goal

pub returns-in_err-lean_order : goal.returns-in_err-lean_order
returns-in_err-lean_order c =
    let e = err_from_is_err_and c.from_residual.result c.from_residual.ensures.1 in
    rw (e.1, e.2)
    (Lists.refused c.in_err-lean_order.field-0.0 c.in_err-lean_order.ensures)

pub returns : goal.returns
returns c = Lists.listed c.in_ok-lean_order.ensures
