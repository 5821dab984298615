use Rattle.std.proofs.Common.{length, refl}
use Rattle.std.proofs.lemmas.Result.{err_from_is_err_and}
use Rattle.planner.specs.Replies.{AnswersText}
use Rattle.planner.proofs.Printing.{refused_prints, mapped_prints}
use Rattle.planner.proofs.plan.Plan.answer.Goals as goal

pub returns-in_err-plan : goal.returns-in_err-plan
returns-in_err-plan c =
    let e = err_from_is_err_and c.from_residual.result c.from_residual.ensures.1 in
    rw (e.1, e.2)
    (record {
      answer = AnswersText.refused c.in_err-plan.ensures refl;
      within = tt;
      printed = λ enough long. refused_prints c.args.text.now (length c.args.memory.now) c.plan.new.self c.in_err-plan.field-0.0 enough c.in_err-plan.ensures;
    })

pub returns : goal.returns
returns c =
    record {
      answer = AnswersText.mapped c.in_ok-plan.ensures c.write_map.ensures.map;
      within = c.write_map.ensures.within;
      printed = λ enough long.
          mapped_prints c.args.text.now (length c.args.memory.now) c.plan.new.self c.args.out.now c.write_map.new.out c.write_map.result long c.write_map.ensures.few c.in_ok-plan.ensures c.write_map.ensures.map;
    }
