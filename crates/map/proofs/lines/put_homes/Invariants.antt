use Rattle.std.proofs.Common.{◌≡◌, ◌+◌, ◌*◌, ◌≤◌, ◌++◌, length}
use Rattle.map.specs.Maps.{home_lines}
use Rattle.map.proofs.lines.put_homes.Given as goal

abbrev pub invariant-loop-bank : goal.invariant-loop-bank
invariant-loop-bank l =
    (l.map.bytes ≡ l.initial.map.bytes ++ home_lines l.layout l.x l.bank) × (length l.map.bytes ≤ length l.initial.map.bytes + 20 * l.bank)
