use Rattle.std.proofs.Common.{List, length, ap, ◌∙◌}
use Rattle.rules.specs.declared.memory.Object.{Object}
use Rattle.graph.proofs.Held.{objects_of_held}
use Rattle.graph.proofs.sheet_graph.Graph.object_count.Goals as goal

pub returns : goal.returns
returns c =
    let r = c.args.self.now.sheet in
    record {
      value = c.len.ensures.value ∙ (r.objects.list.ok.0 ∙ ap (λ (os : List Object). length os) (objects_of_held r));
      few = c.len.ensures.few;
    }
