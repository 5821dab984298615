use Rattle.std.proofs.Common.{◌≡◌, drop}
use Rattle.words.specs.Words.{bit}
use Rattle.lean.specs.Totals.{totals, highest}
use Rattle.lean.proofs.peak.peak_of.Given as goal

abbrev pub invariant-loop-actor : goal.invariant-loop-actor
invariant-loop-actor l =
    highest l.peak (totals l.objects (bit l.finished) (drop l.actor-index l.listing)) ≡ highest 0 (totals l.objects (bit 0) l.listing)
