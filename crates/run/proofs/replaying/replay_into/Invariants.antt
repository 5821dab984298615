use Rattle.std.proofs.Common.{◌≡◌, length, take, drop}
use Rattle.run.specs.Replayed.{Replayed}
use Rattle.run.proofs.replaying.replay_into.Given as goal

abbrev pub invariant-loop-i : goal.invariant-loop-i
invariant-loop-i l =
    Replayed l.graph (take l.i l.calls) (take l.i l.answers) l.run
    × (drop (length l.calls) l.answers ≡ drop (length l.calls) l.initial.answers)
