use Rattle.std.proofs.Common.{◌+◌, ◌*◌, ◌≤◌, length, vec_len}
use Rattle.rules.specs.Drafts.{nothing}
use Rattle.rules.specs.Reading.{Outcome, Reads}
use Rattle.graph.specs.Taking.{draft_of}
use Rattle.graph.proofs.read_sheet.ReadSheet.take_lines.Given as goal

-- the lines fit, the links fit, and what is left gives what the whole text gives
abbrev pub invariant-loop-rest : goal.invariant-loop-rest
invariant-loop-rest l =
    (l.at + length l.rest ≤ 65538)
    × (6 * vec_len l.self.links.list + length l.rest ≤ 65536)
    × ((o : Outcome) → Reads (draft_of l.self) l.at l.rest o → Reads nothing 2 l.text o)

abbrev pub decreases-loop-rest : goal.decreases-loop-rest
decreases-loop-rest l = length l.rest
