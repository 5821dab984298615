use Rattle.std.proofs.Common.{vec_items, ap}
use Rattle.std.proofs.lemmas.Result.{err_from_is_err_and}
use Rattle.graph.proofs.Heads.{unheaded}
use Rattle.graph.specs.Stages.{head_of}
use Rattle.planner.specs.Plans.{reads, refuses}
use Rattle.planner.proofs.plan.Plan.read.Goals as goal

pub returns-in_err-read-clause-read : goal.returns-in_err-read-clause-read
returns-in_err-read-clause-read c =
    let e = err_from_is_err_and c.from_residual.result c.from_residual.ensures.1 in
    let given = c.in_err-read.ensures in
    let r = c.read.new.self.sheet in
    rw (e.1, e.2)
    (refuses given.0 (λ s. unheaded (vec_items r.layers) (vec_items r.actors) (vec_items r.links.list) r.stage (ap head_of given.1) s))

pub returns-clause-read : goal.returns-clause-read
returns-clause-read c = let given = c.in_ok-read.ensures in reads given.0 given.1 given.2
