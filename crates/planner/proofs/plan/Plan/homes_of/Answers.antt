use Rattle.std.proofs.Common.{sym, ◌∙◌, arith}
use Rattle.planner.specs.Replies.{Replies}
use Rattle.planner.proofs.Printing.{never_both}
use Rattle.planner.proofs.plan.Plan.homes_of.Goals as goal
use Rattle.planner.proofs.plan.Plan.homes_of.Goals.{then-not-is_placed-via-then-not-is_placed, then-not-is_placed-via-else-not-is_placed+then-x-len}

pub returns-then-not-is_placed : goal.returns-then-not-is_placed
returns-then-not-is_placed c =
    Replies.unknown (λ known. elim c.then-not-is_placed.branch [
      | then-not-is_placed-via-then-not-is_placed w ↦ never_both c.args.self.now.layout.placed known.0 (sym c.is_placed.ensures ∙ w.if-not-is_placed.true)
      | then-not-is_placed-via-else-not-is_placed+then-x-len w ↦ omega (arith, known.1, w.len.ensures, c.args.self.now.layout.spots.ok.0)
    ])

pub returns : goal.returns
returns c =
    Replies.told (sym c.is_placed.ensures ∙ c.if-not-is_placed.false, omega (arith, c.len.ensures, c.args.self.now.layout.spots.ok.0)) c.homes.ensures
