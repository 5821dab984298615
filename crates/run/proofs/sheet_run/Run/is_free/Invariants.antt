use Rattle.std.proofs.Common.{◌≡◌, ℕ, ◌<◌, true}
use Rattle.rules.specs.Runs.{finished}
use Rattle.graph.specs.Rows.{before}
use Rattle.run.specs.Called.{sheet_of}
use Rattle.run.specs.Records.{phase_in}
use Rattle.run.proofs.sheet_run.Run.is_free.Given as goal

abbrev pub invariant-loop-b : goal.invariant-loop-b
invariant-loop-b l = (k : ℕ) → k < l.b → before l.self.order.rows k l.a ≡ true → phase_in (sheet_of l.self) l.self.records k ≡ finished
