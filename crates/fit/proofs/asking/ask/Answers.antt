use Rattle.std.proofs.lemmas.Grind.{common_steps}
use Rattle.std.proofs.Common.{◌≡◌, Ok, sym, subst, arith}
use Rattle.fit.specs.Asking.{Outcome, asked}
use Rattle.fit.proofs.Outcomes.{asked_outcome}
use Rattle.fit.proofs.asking.ask.Goals as goal

pub returns-in_err-new-clause-outcome : goal.returns-in_err-new-clause-outcome
returns-in_err-new-clause-outcome g c =
    let rule = g.R.FitRule.answers c.args.rule.now in
    let v : c.from_residual.result ≡ asked rule c.args.gaps.now c.args.size c.args.grain = grind (arith, common_steps) in
    subst (λ r. Outcome rule c.args.gaps.now c.args.size c.args.grain r) (sym v)
    (asked_outcome c.args.gaps.now c.args.size c.args.grain rule (g.met.R.FitRule.lawful c.args.rule.now))

pub returns-clause-outcome : goal.returns-clause-outcome
returns-clause-outcome g c =
    let rule = g.R.FitRule.answers c.args.rule.now in
    let v : Ok c.fit.result ≡ asked rule c.args.gaps.now c.args.size c.args.grain = grind (arith, common_steps) in
    subst (λ r. Outcome rule c.args.gaps.now c.args.size c.args.grain r) (sym v)
    (asked_outcome c.args.gaps.now c.args.size c.args.grain rule (g.met.R.FitRule.lawful c.args.rule.now))
