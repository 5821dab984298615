use Rattle.std.proofs.Common.{◌≡◌, ◌*◌, ◌^◌, ◌≤◌}
use Rattle.rules.specs.Lists.{numbers_from, total}
use Rattle.rules.specs.Runs.{State}
use Rattle.run.specs.Called.{InState, sheet_of}
use Rattle.run.proofs.Summed.{weight}
use Rattle.run.proofs.sheet_run.Run.live_bytes.Given as goal

abbrev pub invariant-loop-object : goal.invariant-loop-object
invariant-loop-object l =
    ((st : State) → InState l.self st → l.sum ≡ total (weight (sheet_of l.self) st) (numbers_from 0 l.object-index))
    × (l.sum ≤ l.object-index * 2 ^ 32)
