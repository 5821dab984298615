use Rattle.std.proofs.Common.{◌∙◌}
use Rattle.graph.proofs.Held.{held_is}
use Rattle.planner.proofs.Unread.{nobody_read}
use Rattle.planner.proofs.plan.Plan.actor_count.Goals as goal

pub returns : goal.returns
returns c =
    record {
      value = c.actor_count.ensures.value;
      held = λ s read. held_is c.args.self.now.graph.sheet s read;
      nobody = λ none. c.actor_count.ensures.value ∙ nobody_read c.args.self.now none;
    }
