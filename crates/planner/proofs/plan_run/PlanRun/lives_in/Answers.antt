use Rattle.std.proofs.Common.{◌≡◌, true, false, ◌&&◌, is_some, sym, ap, ◌∙◌, rules}
use Rattle.std.specs.Option.{unwrap_or}
use Rattle.rules.specs.Lean.{is_live}
use Rattle.planner.specs.Plans.{places_of}
use Rattle.planner.specs.Replies.{sheet_of}
use Rattle.planner.proofs.Banked.{said_live}
use Rattle.planner.proofs.plan_run.PlanRun.lives_in.Goals as goal

pub returns-then-unwrap_or : goal.returns-then-unwrap_or
returns-then-unwrap_or c st shows =
    let r = c.args.self.now in
    let said : c.unwrap_or.result ≡ unwrap_or c.is_live.result false = search rules in
    let lives : is_live (sheet_of r.plan.now) st c.args.x ≡ true =
    sym (said_live r c.args.x c.requires.known c.is_live.result c.is_live.ensures st shows) ∙ sym said ∙ c.if-unwrap_or.true in
    let lies : c.is_some.result ≡ is_some (places_of r.plan.now c.args.bank c.args.x) = search rules in
    lies ∙ sym (ap (λ t. t && is_some (places_of r.plan.now c.args.bank c.args.x)) lives)

pub returns-else-unwrap_or : goal.returns-else-unwrap_or
returns-else-unwrap_or c st shows =
    let r = c.args.self.now in
    let said : c.unwrap_or.result ≡ unwrap_or c.is_live.result false = search rules in
    let dead : is_live (sheet_of r.plan.now) st c.args.x ≡ false =
    sym (said_live r c.args.x c.requires.known c.is_live.result c.is_live.ensures st shows) ∙ sym said ∙ c.if-unwrap_or.false in
    c.if-unwrap_or.false ∙ sym (ap (λ t. t && is_some (places_of r.plan.now c.args.bank c.args.x)) dead)
