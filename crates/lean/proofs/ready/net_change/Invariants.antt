use Rattle.std.proofs.Common.{◌≡◌, ◌*◌, ◌^◌, ◌≤◌, take}
use Rattle.rules.specs.Drafts.{fifo_count}
use Rattle.rules.specs.Lean.{produced, consumed}
use Rattle.lean.proofs.ready.net_change.Given as goal

abbrev pub invariant-loop-link : goal.invariant-loop-link
invariant-loop-link l =
    (l.produced ≡ produced (take l.link-index l.links) l.a) × (l.consumed ≡ consumed (take l.link-index l.links) l.a)
    × (l.produced ≤ fifo_count (take l.link-index l.links) * 2 ^ 32) × (l.consumed ≤ fifo_count (take l.link-index l.links) * 2 ^ 32)
