use Rattle.std.proofs.Common.{◌∙◌, arith}
use Rattle.graph.proofs.Held.{nobody_held}
use Rattle.graph.proofs.sheet_graph.Graph.actor_count.Goals as goal

pub returns : goal.returns
returns c =
    let r = c.args.self.now.sheet in
    record {
      value = c.len.ensures ∙ r.actors.ok.0;
      few = omega (arith, r.few);
      nobody = λ empty. c.len.ensures ∙ (r.actors.ok.0 ∙ nobody_held r empty);
    }
