use Rattle.std.proofs.Common.{◌≤◌, true, length, replicate, refl, arith}
use Rattle.rules.specs.Runs.{round, granted}
use Rattle.rules.specs.Sheets.{actor_count}
use Rattle.graph.proofs.Held.{few_held}
use Rattle.run.specs.declared.sheet_run.Run.{Run}
use Rattle.run.specs.Records.{idle}
use Rattle.run.specs.declared.faults.RunFault.TheVariants.{RoundEarly}
use Rattle.run.specs.Called.{sheet_of}
use Rattle.run.specs.Views.{Steps, Over}
use Rattle.run.proofs.Stepping.{round_early_steps, round_steps}
use Rattle.run.proofs.Onward.{goes_on}
use Rattle.run.proofs.Calling.{refused_call}
use Rattle.run.proofs.sheet_run.Run.round.Goals as goal

pub returns-then-not-is_over : goal.returns-then-not-is_over
returns-then-not-is_over c =
    let run = c.args.self.now in refused_call run round RoundEarly tt (round_early_steps (sheet_of run) run.records run.order.rows c.if-not-is_over.ensures)

granted_steps : (run : Run) → Over (sheet_of run) run.records true →
    Steps (sheet_of run) round granted run.records run.order.rows (replicate 64 idle) run.order.rows
granted_steps run over =
    let few : actor_count (sheet_of run) ≤ 64 = few_held run.graph.now.sheet in
    let l : actor_count (sheet_of run) ≤ length run.records = omega (arith, run.long) in
    round_steps (sheet_of run) run.records run.order.rows l few over

pub invariant_of-self : goal.invariant_of-self
invariant_of-self c =
    let run = c.args.self.now in
    record { long = refl; reached = goes_on (sheet_of run) round granted run.records run.order.rows (replicate 64 idle) run.order.rows run.reached (granted_steps run c.if-not-is_over.ensures) }

pub returns : goal.returns
returns c = record { graph = refl; steps = granted_steps c.args.self.now c.if-not-is_over.ensures; leaves = refl; suits = tt }
