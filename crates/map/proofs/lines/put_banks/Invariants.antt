use Rattle.std.proofs.Common.{◌≡◌, ◌+◌, ◌*◌, ◌≤◌, ◌++◌, length}
use Rattle.map.specs.Maps.{bank_lines}
use Rattle.map.proofs.lines.put_banks.Given as goal

abbrev pub invariant-loop-number : goal.invariant-loop-number
invariant-loop-number l =
    (l.map.bytes ≡ l.initial.map.bytes ++ bank_lines l.banks l.number) × (length l.map.bytes ≤ length l.initial.map.bytes + 27 * l.number)
