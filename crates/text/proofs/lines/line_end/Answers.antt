use Rattle.std.proofs.Common.{◌≡◌, ◌+◌, ◌-◌, get_or, drop, arith, rules, tests}
use Rattle.std.proofs.lemmas.Grind.{common_steps}
use Rattle.std.proofs.lemmas.Iterator.{YieldsList-from_slice, IsFirst-from_position}
use Rattle.std.proofs.lemmas.List.{get_or-drop, take_rest}
use Rattle.text.proofs.lines.line_end.Goals as goal

pub returns-in_err-i : goal.returns-in_err-i
returns-in_err-i c =
    let text = c.args.text.now in
    let from = c.args.from in
    let p = IsFirst-from_position _ _ _ (λ b. b ≡ 10) (λ b. b ≡ 10 → ⊥) c.position.ensures.ran (YieldsList-from_slice c.in_ok-get.field-0.now cc) (λ x q k. search (rules, tests)) (λ x q k. search (rules, tests)) in
    let none = rw c.in_err-i.was at p in
    let e : c.in_ok-get.field-0.now ≡ drop from text = search (rules, take_rest) in
    rw c.from_residual-in_err-i.ensures
    (λ k l h q. none (k - from) 0 (omega arith) (omega (arith, c.in_ok-get.ensures.lookup)) (grind (arith, common_steps, get_or-drop from text (k - from) 0)))

pub returns : goal.returns
returns c =
    let text = c.args.text.now in
    let from = c.args.from in
    let p = IsFirst-from_position _ _ _ (λ b. b ≡ 10) (λ b. b ≡ 10 → ⊥) c.position.ensures.ran (YieldsList-from_slice c.in_ok-get.field-0.now cc) (λ x q k. search (rules, tests)) (λ x q k. search (rules, tests)) in
    let found = rw c.in_ok-i.was at p in
    let e : c.in_ok-get.field-0.now ≡ drop from text = search (rules, take_rest) in
    let at : get_or text (from + c.in_ok-i.i) 0 ≡ 10 = grind (arith, common_steps, get_or-drop, found.1 0) in
    (omega arith, omega (arith, found.0, c.in_ok-get.ensures.lookup), at, λ k l h q. found.2 (k - from) 0 (omega arith) (omega arith) (grind (arith, common_steps, get_or-drop from text (k - from) 0)))
