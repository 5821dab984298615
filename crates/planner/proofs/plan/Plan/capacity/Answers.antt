use Rattle.std.proofs.Common.{◌<◌, List, length, vec_items, sym, ap, ◌∙◌, subst, arith}
use Rattle.layout.specs.declared.plan_layout.BankUse.{BankUse}
use Rattle.planner.specs.Replies.{Replies}
use Rattle.planner.proofs.Printing.{never_both}
use Rattle.planner.proofs.Replying.{use_found}
use Rattle.planner.proofs.plan.Plan.capacity.Goals as goal

pub returns-then-not-is_placed : goal.returns-then-not-is_placed
returns-then-not-is_placed c =
    Replies.unknown (λ known. never_both c.args.self.now.layout.placed known.0 (sym c.is_placed.ensures ∙ c.if-not-is_placed.true))

pub returns-in-Some : goal.returns-in-Some
returns-in-Some c =
    let found = c.in-Some.ensures.lookup in
    let banks = vec_items c.args.self.now.layout.banks in
    Replies.told
    (sym c.is_placed.ensures ∙ c.if-not-is_placed.false, subst (λ (us : List BankUse). c.args.bank < length us) c.banks.ensures.value found.3.0)
    (ap (λ (u : BankUse). u.capacity) (use_found banks c.banks.result.now c.args.bank c.in-Some.used.now c.banks.ensures.value found.3.0 found.1))

pub returns-in-None : goal.returns-in-None
returns-in-None c =
    Replies.unknown (λ known. let past = c.in-None.ensures.lookup.3 in omega (arith, past, known.1, ap (λ (us : List BankUse). length us) c.banks.ensures.value))
