use Rattle.std.proofs.Common.{◌∙◌}
use Rattle.planner.proofs.Unread.{nothing_read}
use Rattle.planner.proofs.plan.Plan.object_count.Goals as goal

pub returns : goal.returns
returns c =
    record {
      value = c.object_count.ensures.value;
      nothing = λ none. c.object_count.ensures.value ∙ nothing_read c.args.self.now none;
    }
