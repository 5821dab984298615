use Rattle.std.proofs.Common.{◌<◌, List, length, vec_items, sym, ap, ◌∙◌, arith}
use Rattle.layout.specs.declared.plan_layout.BankUse.{BankUse}
use Rattle.planner.specs.Plans.{places_of}
use Rattle.planner.specs.Replies.{RepliesPlaced}
use Rattle.planner.proofs.Replying.{placed_told}
use Rattle.planner.proofs.plan.Plan.place_of.Goals as goal
use Rattle.planner.proofs.plan.Plan.place_of.Goals.{then-x-len-via-then-x-len, then-x-len-via-else-x-len+then-bank-banks}

pub returns-then-not-is_placed : goal.returns-then-not-is_placed
returns-then-not-is_placed c = RepliesPlaced.unplaced (sym c.is_placed.ensures ∙ c.if-not-is_placed.true)

pub returns-then-x-len : goal.returns-then-x-len
returns-then-x-len c =
    RepliesPlaced.no_such_place (sym c.is_placed.ensures ∙ c.if-not-is_placed.false)
    (λ known. elim c.then-x-len.branch [
      | then-x-len-via-then-x-len w ↦ omega (arith, known.0, c.len.ensures, c.args.self.now.layout.spots.ok.0)
      | then-x-len-via-else-x-len+then-bank-banks w ↦ omega (arith, known.1, ap (λ (us : List BankUse). length us) w.banks.ensures.value)
    ])

pub returns : goal.returns
returns c =
    let spots = vec_items c.args.self.now.layout.spots in
    let banks = vec_items c.args.self.now.layout.banks in
    placed_told c.args.self.now ((c.args.x < length spots) × (c.args.bank < length banks)) (places_of c.args.self.now c.args.bank c.args.x) c.place.result c.place.ensures
    (sym c.is_placed.ensures ∙ c.if-not-is_placed.false)
    (omega (arith, c.len.ensures, c.args.self.now.layout.spots.ok.0), omega (arith, ap (λ (us : List BankUse). length us) c.banks.ensures.value))
