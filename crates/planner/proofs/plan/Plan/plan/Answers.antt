use Rattle.std.proofs.Common.{length}
use Rattle.std.proofs.lemmas.Result.{err_from_is_err_and}
use Rattle.rules.specs.Choosing.{first_of}
use Rattle.rules.specs.Fabrics.{unified}
use Rattle.planner.proofs.Joined.{badly_own, read_placed_own}
use Rattle.planner.proofs.plan.Plan.plan.Goals as goal

pub returns-in_err-read : goal.returns-in_err-read
returns-in_err-read c =
    let e = err_from_is_err_and c.from_residual.result c.from_residual.ensures.1 in
    rw (e.1, e.2)
    (badly_own c.args.text.now (unified 0 0) first_of (length c.args.memory.now) c.read.new.self c.in_err-read.field-0.0 c.in_err-read.ensures.read c.in_err-read.ensures.unplaced)

pub returns : goal.returns
returns c =
    read_placed_own c.args.text.now (length c.args.memory.now) c.read.new.self c.place.new.self c.place.result c.in_ok-read.ensures.read c.in_ok-read.ensures.unplaced c.place.ensures
