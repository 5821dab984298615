use Rattle.std.proofs.Common.{◌≡◌, length, vec_items, sym, ap, ◌∙◌, arith}
use Rattle.graph.specs.Excluding.{excluding}
use Rattle.graph.proofs.Kept.{rows_more}
use Rattle.graph.proofs.exclusions.Exclusions.settle.Goals as goal

pub loop-x-preserved : goal.loop-x-preserved
loop-x-preserved c =
    let rows = vec_items c.loop-x.self.rows in
    let test = excluding c.args.order.now.rows c.as_slice-list.result.now in
    let long : length rows ≡ c.loop-x.x = sym c.loop-x.self.rows.ok.0 ∙ c.loop-x.invariant.0 in (
      omega (arith, c.push_reserved.ensures.len, c.loop-x.invariant.0),
      λ z y h. rows_more rows (vec_items c.push_reserved.new.self) c.row_of.result test c.push_reserved.ensures.items
          (λ k j l. c.loop-x.invariant.1 k j (omega arith)) (λ j. c.row_of.ensures j ∙ ap (λ n. test n j) (sym long)) z y (omega arith),
    )
