use Rattle.std.proofs.Common.{refl}
use Rattle.graph.proofs.Tables.{no_rows}
use Rattle.graph.proofs.order.Order.none.Goals as goal

pub invariant_of-result : goal.invariant_of-result
invariant_of-result c = record { long = refl; irreflexive = (λ a. no_rows 64 a a); transitive = (λ a b d. rw (no_rows 64 a b)) }

pub returns : goal.returns
returns c = λ a b. no_rows 64 a b
