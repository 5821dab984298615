use Rattle.graph.proofs.Tables.{Growing}
use Rattle.graph.proofs.order.Order.join.Given as goal

abbrev pub invariant-loop-x : goal.invariant-loop-x
invariant-loop-x l = Growing l.fn.self.rows l.row-items l.a l.b l.x
