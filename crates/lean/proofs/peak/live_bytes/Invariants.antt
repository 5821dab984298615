use Rattle.std.proofs.Common.{◌≡◌, ◌+◌, ◌*◌, ◌^◌, ◌≤◌, drop}
use Rattle.words.specs.Words.{bit}
use Rattle.lean.specs.Totals.{live_in}
use Rattle.lean.proofs.peak.live_bytes.Given as goal

abbrev pub invariant-loop-object : goal.invariant-loop-object
invariant-loop-object l =
    (l.sum + live_in (drop l.object-index l.objects) (bit l.started) (bit l.finished) ≡ live_in l.objects (bit l.started) (bit l.finished))
    × (l.sum ≤ l.object-index * 2 ^ 32)
