use Rattle.std.proofs.Common.{ap, ◌∙◌}
use Rattle.rules.specs.Lean.{live_bytes}
use Rattle.planner.proofs.Runs.{same_sheet}
use Rattle.planner.proofs.plan_run.PlanRun.live_bytes.Goals as goal

pub returns : goal.returns
returns c st shows = c.live_bytes.ensures st shows ∙ ap (λ s. live_bytes s st) (same_sheet c.args.self.now)
