use Rattle.std.proofs.Common.{◌≡◌, ◌-◌, ◌≤◌, length, take}
use Rattle.words.specs.Words.{bit}
use Rattle.queue.specs.Waiting.{waiting, capacity}
use Rattle.rules.specs.Sheets.{Sheet}
use Rattle.lean.specs.Waiting.{count_of, Describes, Queued}
use Rattle.lean.proofs.Going.{Going}
use Rattle.lean.proofs.listing.list.Given as goal

abbrev pub invariant-loop-next : goal.invariant-loop-next
invariant-loop-next l =
    (length l.initial.out ≤ capacity l.queue)
    × (l.n ≡ count_of (bit l.listed) (length l.initial.out))
    × Queued l.links (length l.initial.out) l.listed l.entered (waiting l.queue)
    × ((s : Sheet) → Describes l.links l.order.rows (length l.initial.out) s → Going s (take l.n l.out) l.listed l.entered)

abbrev pub decreases-loop-next : goal.decreases-loop-next
decreases-loop-next l = length l.initial.out - l.n
