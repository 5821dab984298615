use Rattle.std.proofs.Common.{length}
use Rattle.lampbatch.proofs.main.Given as goal

abbrev pub decreases-loop-sheet : goal.decreases-loop-sheet
decreases-loop-sheet l = length l.rest
