use Rattle.std.proofs.Common.{◌≡◌, true, false, eqb, get_or, sym, ap, ◌∙◌, subst, arith, ne_eqb}
use Rattle.std.proofs.lemmas.Bool.{or_left, or_right, eq-eqb}
use Rattle.words.specs.Words.{bit}
use Rattle.graph.specs.Rows.{before, joined, up_to}
use Rattle.graph.proofs.Relations.{through_from_test, test_from_through, through_alike, joined_through, joined_irreflexive}
use Rattle.graph.proofs.Tables.{Growing, growing_write, growing_whole, row_gains, row_stays, may_join_parts}
use Rattle.graph.proofs.order.Order.join.Goals as goal
use Rattle.graph.proofs.order.Order.join.Goals.{then-x-a, then-x-a-via-then-x-a, then-x-a-via-else-x-a+then-has, else-x-a+else-has}

pub loop-x-preserved : goal.loop-x-preserved
loop-x-preserved c =
    let old = c.args.self.now.rows in
    let x = c.loop-x.x in
    let a = c.args.a in
    let row = get_or c.loop-x.row-items x 0 in
    let here : row ≡ get_or old x 0 = c.loop-x.invariant.rest x (omega arith) in
    let same : bit row a ≡ before old x a = ap (λ w. bit w a) here in
    let parts = may_join_parts old a c.args.b c.requires.allowed in
    elim c.if-x-a.branch [
      | then-x-a w ↦
          let up : up_to (before old) x a ≡ true = elim w.then-x-a.branch [
            | then-x-a-via-then-x-a v ↦ or_left (eqb x a) (before old x a) (eq-eqb x a v.if-x-a.true)
            | then-x-a-via-else-x-a+then-has v ↦ or_right (eqb x a) (before old x a) (sym same ∙ (sym v.has.ensures ∙ v.if-has.true))
          ] in
          rw w.row-items-is
          (growing_write old c.loop-x.row-items a c.args.b x _ c.loop-x-test.true (row_gains old row c.with-gained.result a c.args.b x parts.1 here c.with-gained.ensures.bits up) c.loop-x.invariant)
      | else-x-a+else-has w ↦
          let differ = ne_eqb x a w.if-x-a.false in
          let clear : before old x a ≡ false = sym same ∙ (sym w.has.ensures ∙ w.if-has.false) in
          let up : up_to (before old) x a ≡ false = rw (differ, clear) in
          rw w.row-items-is (growing_write old c.loop-x.row-items a c.args.b x row c.loop-x-test.true (row_stays old row a c.args.b x here up) c.loop-x.invariant)
    ]

pub invariant_of-self : goal.invariant_of-self
invariant_of-self c =
    let order = c.args.self.now in
    let r = before order.rows in
    let parts = may_join_parts order.rows c.args.a c.args.b c.requires.allowed in
    let end : Growing order.rows c.loop-x.row-items c.args.a c.args.b 64 =
    subst (Growing order.rows c.loop-x.row-items c.args.a c.args.b) (let e : c.loop-x.x ≡ 64 = omega arith in e) c.loop-x.invariant in
    let same = growing_whole order.rows c.loop-x.row-items c.args.a c.args.b order.long parts.0 end in
    let through = through_from_test r order.transitive in
    record {
      long = end.long;
      irreflexive = λ x. same x x ∙ joined_irreflexive r c.args.a c.args.b through order.irreflexive parts.2 x;
      transitive = test_from_through (before c.loop-x.row-items) (through_alike (before c.loop-x.row-items) (joined r c.args.a c.args.b) same (joined_through r c.args.a c.args.b through));
    }
