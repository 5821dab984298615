use Rattle.std.proofs.Common.{◌≡◌}
use Rattle.queue.specs.Waiting.{waiting, capacity}
use Rattle.lean.specs.Waiting.{Queued, Entered}
use Rattle.lean.proofs.listing.enter.Given as goal

abbrev pub invariant-loop-a : goal.invariant-loop-a
invariant-loop-a l =
    (capacity l.queue ≡ capacity l.initial.queue)
    × (l.queue.slots.ghost_name ≡ l.initial.queue.slots.ghost_name)
    × Queued l.links l.count l.listed l.all (waiting l.queue) × Entered l.order.rows l.listed l.a l.entered l.all
