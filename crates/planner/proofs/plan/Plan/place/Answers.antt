use Rattle.std.proofs.Common.{length, vec_items, sym, ◌∙◌}
use Rattle.std.proofs.lemmas.Result.{err_from_is_err_and}
use Rattle.rules.specs.Choosing.{first_of}
use Rattle.rules.specs.Fabrics.{unified}
use Rattle.fabric.specs.Sheets.{sheet_means}
use Rattle.fit.specs.Sheets.{by_sheet}
use Rattle.graph.proofs.Heads.{unheaded}
use Rattle.planner.specs.declared.faults.JobFault.TheVariants.{Empty}
use Rattle.planner.proofs.Mapped.{refused, granted}
use Rattle.planner.proofs.Owned.{owned}
use Rattle.planner.proofs.Placings.{ends_empty}
use Rattle.planner.proofs.plan.Plan.place.Goals as goal

pub returns-in_err-machine : goal.returns-in_err-machine
returns-in_err-machine c =
    let no = refused c.head.result Empty c.in_err-machine.field-0.0 (sym c.ok_or.ensures.value ∙ c.in_err-machine.was) in
    let e = err_from_is_err_and c.from_residual.result c.from_residual.ensures.1 in
    let none = sym c.head.ensures.head ∙ no.0 in
    let r = c.args.self.now.graph.sheet in
    rw (e.1, e.2, no.1)
    (record {
      fabric = unified 0 0;
      rule = first_of;
      own = λ s held. absurd (unheaded (vec_items r.layers) (vec_items r.actors) (vec_items r.links.list) r.stage none s held);
      outcome = ends_empty c.args.self.now (unified 0 0) first_of (length c.args.memory.now) none;
    })

pub returns : goal.returns
returns c =
    let headed = sym c.head.ensures.head ∙ granted c.head.result Empty (c.in_ok-machine.machine, c.in_ok-machine.fit) (sym c.ok_or.ensures.value ∙ c.in_ok-machine.was) in record {
      fabric = sheet_means c.of-fabric.result;
      rule = by_sheet c.of-rule.result;
      own =
          owned c.args.self.now (c.in_ok-machine.machine, c.in_ok-machine.fit) headed c.layers.result.now c.layers.ensures
          (sheet_means c.of-fabric.result) (by_sheet c.of-rule.result) c.of-rule.ensures c.of-fabric.ensures.whole;
      outcome = c.place_with.ensures;
    }
