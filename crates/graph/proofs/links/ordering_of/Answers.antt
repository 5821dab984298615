use Rattle.std.proofs.Common.{refl}
use Rattle.rules.specs.Drafts.{by_fifo, by_sequence}
use Rattle.graph.proofs.links.ordering_of.Goals as goal

pub returns-in-Plain : goal.returns-in-Plain
returns-in-Plain c = rw c.in-Plain.is (by_fifo c.in-Plain.fifo, refl, refl)

pub returns-in-Ordered : goal.returns-in-Ordered
returns-in-Ordered c = rw c.in-Ordered.is (by_sequence c.in-Ordered.sequence, refl, refl)
