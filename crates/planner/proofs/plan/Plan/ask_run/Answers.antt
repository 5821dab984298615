use Rattle.std.proofs.Common.{vec_items, sym, ◌∙◌}
use Rattle.std.proofs.lemmas.Result.{err_from_is_err_and}
use Rattle.graph.proofs.Heads.{headed_holds, unheaded}
use Rattle.planner.specs.declared.faults.JobFault.TheVariants.{NoSheet}
use Rattle.planner.specs.Replies.{AsksRun}
use Rattle.planner.proofs.Mapped.{refused, granted}
use Rattle.planner.proofs.plan.Plan.ask_run.Goals as goal

pub returns-in_err-ok_or : goal.returns-in_err-ok_or
returns-in_err-ok_or c =
    let no = refused c.head.result NoSheet c.in_err-ok_or.field-0.0 (sym c.ok_or.ensures.value ∙ c.in_err-ok_or.was) in
    let e = err_from_is_err_and c.from_residual.result c.from_residual.ensures.1 in
    let r = c.args.self.now.graph.sheet in
    rw (e.1, e.2, no.1)
    (AsksRun.no_sheet (λ s. unheaded (vec_items r.layers) (vec_items r.actors) (vec_items r.links.list) r.stage (sym c.head.ensures.head ∙ no.0) s))

pub returns : goal.returns
returns c =
    let r = c.args.self.now.graph.sheet in
    AsksRun.granted _
    (headed_holds (vec_items r.layers) (vec_items r.actors) (vec_items r.links.list) r.stage c.in_ok-ok_or.field-0
    (sym c.head.ensures.head ∙ granted c.head.result NoSheet c.in_ok-ok_or.field-0 (sym c.ok_or.ensures.value ∙ c.in_ok-ok_or.was)))
