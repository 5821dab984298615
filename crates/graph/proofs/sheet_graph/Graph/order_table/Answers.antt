use Rattle.graph.proofs.Held.{order_of_held}
use Rattle.graph.proofs.sheet_graph.Graph.order_table.Goals as goal

pub returns : goal.returns
returns c = order_of_held c.args.self.now.sheet
