use Rattle.std.proofs.Common.{◌+◌, ◌<◌}
use Rattle.arrayvec.specs.ArrayVec.{array_vec_len}
use Rattle.layout.proofs.Ascents.{Found}
use Rattle.layout.proofs.Sweeps.{Trails}
use Rattle.layout.proofs.gaps.find_gaps.Given as goal

abbrev pub invariant-loop-item : goal.invariant-loop-item
invariant-loop-item g l = record {
  can : (goal.iterator-loop-item g).can_next l.item-iterator;
  ends : (goal.iterator-loop-item g).is_finite l.item-iterator;
  room : array_vec_len l.gaps + (goal.iterator-loop-item g).remaining l.item-iterator < 256;
  found : Found l.capacity l.free l.gaps.items;
  trails : Trails (goal.iterator-loop-item g).next_gives l.fn.items l.capacity l.item-iterator l.free l.gaps.items;
}
