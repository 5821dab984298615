use Rattle.std.proofs.Common.{◌≡◌, ◌<◌, false, List, length, get_or, ap, ◌∙◌, subst, arith}
use Rattle.rules.specs.declared.memory.Object.{Object}
use Rattle.rules.specs.Lists.{numbers_from, total}
use Rattle.rules.specs.Objects.{object, object_count, objects}
use Rattle.graph.proofs.Held.{objects_of_held}
use Rattle.run.specs.Called.{sheet_of}
use Rattle.run.proofs.Summed.{total_more, weight, weight_live, weight_dead}
use Rattle.run.proofs.sheet_run.Run.live_bytes.Goals as goal
use Rattle.run.proofs.sheet_run.Run.live_bytes.Goals.{then-lives, else-lives}

pub loop-object-preserved : goal.loop-object-preserved
loop-object-preserved c =
    let run = c.args.self.now in
    let s = sheet_of run in
    let i = c.loop-object.object-index in
    let items = c.objects-object-items.result.now in
    let o : Object = get_or items i (record { producer = 0; consumer = 0; size = 0; delayed = false }) in
    let same : items ≡ objects s = c.objects-object-items.ensures.items ∙ objects_of_held run.graph.now.sheet in
    let known : i < object_count s = subst (λ (os : List Object). i < length os) same c.loop-object-test.true in
    let at : o ≡ object s i = ap (λ (os : List Object). get_or os i (record { producer = 0; consumer = 0; size = 0; delayed = false })) same in
    elim c.if-lives.branch [
      | then-lives w ↦ (
        λ st sh.
            let sum = c.loop-object.invariant.0 st sh in
            let more = total_more (weight s st) i in
            let here = weight_live s run.records run.order.rows st sh i known o at w.if-lives.ensures in
            omega (arith, sum, more, here),
        omega arith,
      )
      | else-lives w ↦ (
        λ st sh.
            let sum = c.loop-object.invariant.0 st sh in
            let more = total_more (weight s st) i in
            let here = weight_dead s run.records run.order.rows st sh i known o at w.if-lives.ensures in
            omega (arith, sum, more, here),
        omega arith,
      )
    ]

pub returns : goal.returns
returns c st sh =
    let run = c.args.self.now in
    let s = sheet_of run in
    let same : c.objects-object-items.result.now ≡ objects s = c.objects-object-items.ensures.items ∙ objects_of_held run.graph.now.sheet in
    let all : c.loop-object.object-index ≡ object_count s = omega (arith, ap (λ (os : List Object). length os) same) in
    c.loop-object.invariant.0 st sh ∙ ap (λ n. total (weight s st) (numbers_from 0 n)) all
