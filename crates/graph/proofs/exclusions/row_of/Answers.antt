use Rattle.std.proofs.Common.{◌≡◌, ℕ, ◌+◌, false, not, ◌&&◌, eqb, ltb, sym, ◌∙◌, subst, arith, ne_eqb}
use Rattle.std.proofs.Math.Bool.{or-false, and-false}
use Rattle.std.proofs.lemmas.Bool.{eq-eqb, lt-ltb}
use Rattle.graph.specs.declared.row.Row.{Row}
use Rattle.graph.specs.Rows.{in_row}
use Rattle.graph.specs.Excluding.{excluding}
use Rattle.graph.proofs.Sets.{looked, excluding_known, excluding_within}
use Rattle.graph.proofs.exclusions.row_of.Goals as goal
use Rattle.graph.proofs.exclusions.row_of.Goals.{then-y-x+then-not-are_apart, else-y-x, else-y-x-via-then-y-x+else-not-are_apart, else-y-x-via-else-y-x}

pub loop-y-preserved : goal.loop-y-preserved
loop-y-preserved c =
    let x = c.args.x in
    let y = c.loop-y.y in
    let words = c.loop-y.row.words in
    let test = excluding c.args.order.now.rows c.args.objects.now x in
    let so : Row → Type 0 = λ row. (z : ℕ) → in_row row.words z ≡ (ltb z (y + 1) && test z) in
    let here = excluding_known c.args.order.now.rows c.args.objects.now x y c.args.object c.requires.known c.requires.itself c.loop-y-test.true in
    let past : test y ≡ false → so c.loop-y.row = λ clear. looked words words test y false c.loop-y.invariant (λ z. sym (or-false (in_row words z))) clear in
    elim c.if-y-x.branch [
      | then-y-x+then-not-are_apart w ↦
          let room = lt-ltb y 256 (omega arith) in
          let other = ne_eqb y x w.if-y-x.true in
          let t : test y ≡ ltb y 256 = here ∙ rw (other, sym w.if-not-are_apart.ensures, room) in
          subst so (sym w.row-is) (looked words w.adding-row.result.words test y (ltb y 256) c.loop-y.invariant w.adding-row.ensures t)
      | else-y-x w ↦
          subst so (sym w.row-is)
          (past
          (here
          ∙ elim w.else-y-x.branch [
            | else-y-x-via-then-y-x+else-not-are_apart v ↦ let apart = v.if-not-are_apart.ensures in rw (sym apart) (and-false (not (eqb y x)))
            | else-y-x-via-else-y-x v ↦ let same = eq-eqb y x v.if-y-x.false in rw same
          ]))
    ]

pub returns : goal.returns
returns c = λ y. c.loop-y.invariant y ∙ excluding_within c.args.order.now.rows c.args.objects.now c.args.x y c.loop-y.y c.loop-y-test.false
