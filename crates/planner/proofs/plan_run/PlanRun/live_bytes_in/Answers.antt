use Rattle.std.proofs.Common.{◌≡◌, ◌<◌, List, length, sym, ap, ◌∙◌, arith}
use Rattle.rules.specs.Lists.{numbers_from, total}
use Rattle.rules.specs.Objects.{object_count, size}
use Rattle.run.proofs.Summed.{total_more}
use Rattle.layout.specs.declared.plan_layout.BankUse.{BankUse}
use Rattle.planner.specs.Plans.{places_of}
use Rattle.planner.specs.Replies.{Replies, sheet_of}
use Rattle.planner.proofs.Banked.{weight_in, weight_inside, weight_outside, size_held}
use Rattle.planner.proofs.Printing.{never_both}
use Rattle.planner.proofs.plan_run.PlanRun.live_bytes_in.Goals as goal
use Rattle.planner.proofs.plan_run.PlanRun.live_bytes_in.Goals.{then-not-is_placed-via-then-not-is_placed, then-not-is_placed-via-else-not-is_placed+then-bank-banks, then-lives_in, else-lives_in}

pub returns-then-not-is_placed : goal.returns-then-not-is_placed
returns-then-not-is_placed c =
    Replies.unknown (λ known. elim c.then-not-is_placed.branch [
      | then-not-is_placed-via-then-not-is_placed w ↦ never_both c.args.self.now.plan.now.layout.placed known.0 (sym c.is_placed.ensures ∙ w.if-not-is_placed.true)
      | then-not-is_placed-via-else-not-is_placed+then-bank-banks w ↦ omega (arith, known.1, ap (λ (us : List BankUse). length us) w.banks.ensures.value)
    ])

pub loop-x-preserved : goal.loop-x-preserved
loop-x-preserved c =
    let p = c.args.self.now.plan.now in
    let s = sheet_of p in
    let x = c.loop-x.x in
    let known : x < object_count s = omega (arith, c.object_count-x-end.ensures) in
    elim c.if-lives_in.branch [
      | then-lives_in w ↦ (
        λ st shows.
            let sum = c.loop-x.invariant.0 st shows in
            let more = total_more (weight_in s st (places_of p) c.args.bank) x in
            let here = weight_inside s st (places_of p) c.args.bank x (sym (c.lives_in.ensures st shows) ∙ w.if-lives_in.true) in
            let bytes : w.size.result ≡ size s x = w.size.ensures ∙ size_held p x known in
            omega (arith, sum, more, here, bytes),
        omega arith,
      )
      | else-lives_in w ↦ (
        λ st shows.
            let sum = c.loop-x.invariant.0 st shows in
            let more = total_more (weight_in s st (places_of p) c.args.bank) x in
            let here = weight_outside s st (places_of p) c.args.bank x (sym (c.lives_in.ensures st shows) ∙ w.if-lives_in.false) in
            omega (arith, sum, more, here),
        omega arith,
      )
    ]

pub returns : goal.returns
returns c =
    let p = c.args.self.now.plan.now in
    let s = sheet_of p in
    let all : c.loop-x.x ≡ object_count s = omega (arith, c.object_count-x-end.ensures) in
    Replies.told
    (sym c.is_placed.ensures ∙ c.if-not-is_placed.false, omega (arith, ap (λ (us : List BankUse). length us) c.banks.ensures.value))
    (λ st shows. c.loop-x.invariant.0 st shows ∙ ap (λ n. total (weight_in s st (places_of p) c.args.bank) (numbers_from 0 n)) all)
