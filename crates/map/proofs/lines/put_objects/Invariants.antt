use Rattle.std.proofs.Common.{◌≡◌, ◌+◌, ◌*◌, ◌≤◌, ◌++◌, length}
use Rattle.map.specs.Maps.{object_lines}
use Rattle.map.proofs.lines.put_objects.Given as goal

abbrev pub invariant-loop-x : goal.invariant-loop-x
invariant-loop-x l =
    (l.map.bytes ≡ l.initial.map.bytes ++ object_lines l.layout l.x) × (length l.map.bytes ≤ length l.initial.map.bytes + 320 * l.x)
