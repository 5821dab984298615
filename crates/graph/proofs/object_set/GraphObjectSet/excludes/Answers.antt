use Rattle.std.proofs.Common.{◌∙◌}
use Rattle.graph.proofs.object_set.GraphObjectSet.excludes.Goals as goal

pub returns : goal.returns
returns c = c.excludes.ensures ∙ c.args.self.now.tied c.args.x c.args.y
