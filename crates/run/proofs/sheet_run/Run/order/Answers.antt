use Rattle.std.proofs.Common.{Err, ◌≡◌, ℕ, ◌<◌, ◌≤◌, true, false, ◌⊎◌, refl, inl, inr, arith, rules}
use Rattle.rules.specs.Runs.{order, granted}
use Rattle.rules.specs.Sheets.{actor_count}
use Rattle.graph.specs.Rows.{before, joined, may_join}
use Rattle.run.specs.declared.faults.RunFault.TheVariants.{Unknown, EqualEnds, Against, Late}
use Rattle.run.specs.Called.{sheet_of}
use Rattle.run.specs.Views.{Steps}
use Rattle.run.proofs.Stepping.{order_unknown_steps, order_equal_steps, order_against_steps, order_late_steps, order_steps}
use Rattle.run.proofs.Told.{against, not_against}
use Rattle.run.proofs.Onward.{goes_on}
use Rattle.run.proofs.Calling.{refused_call}
use Rattle.run.proofs.sheet_run.Run.order.Goals as goal
use Rattle.run.proofs.sheet_run.Run.order.Goals.{then-a-count-via-then-a-count, then-a-count-via-else-a-count+then-b-count, Else-comes_late}

pub returns-then-a-count : goal.returns-then-a-count
returns-then-a-count c =
    let run = c.args.self.now in
    let unknown : (actor_count (sheet_of run) ≤ c.args.a) ⊎ (actor_count (sheet_of run) ≤ c.args.b) =
    elim c.then-a-count.branch [
      | then-a-count-via-then-a-count w ↦ inl (omega (arith, c.actor_count-count.ensures.value))
      | then-a-count-via-else-a-count+then-b-count w ↦ inr (omega (arith, c.actor_count-count.ensures.value))
    ] in
    refused_call run (order c.args.a c.args.b) Unknown tt (order_unknown_steps (sheet_of run) run.records run.order.rows c.args.a c.args.b unknown)

pub returns-then-a-b : goal.returns-then-a-b
returns-then-a-b c =
    let run = c.args.self.now in
    let l : c.args.a < actor_count (sheet_of run) = omega (arith, c.actor_count-count.ensures.value) in
    let m : c.args.b < actor_count (sheet_of run) = omega (arith, c.actor_count-count.ensures.value) in
    refused_call run (order c.args.a c.args.b) EqualEnds tt (order_equal_steps (sheet_of run) run.records run.order.rows c.args.a c.args.b l m c.if-a-b.true)

pub returns-in_err-order : goal.returns-in_err-order
returns-in_err-order c =
    let run = c.args.self.now in
    let l : c.args.a < actor_count (sheet_of run) = omega (arith, c.actor_count-count.ensures.value) in
    let m : c.args.b < actor_count (sheet_of run) = omega (arith, c.actor_count-count.ensures.value) in
    let never : may_join run.order.rows c.args.a c.args.b ≡ false = search rules in
    let behind : before run.order.rows c.args.b c.args.a ≡ true =
    against run.order.rows c.args.a c.args.b (omega (arith, c.actor_count-count.ensures.few)) (omega (arith, c.actor_count-count.ensures.few)) c.if-a-b.false never in
    let refused = refused_call run (order c.args.a c.args.b) Against tt (order_against_steps (sheet_of run) run.records run.order.rows c.args.a c.args.b l m c.if-a-b.false behind) in
    let same : c.from_residual.result ≡ Err Against = search rules in
    rw same refused

pub returns-then-comes_late : goal.returns-then-comes_late
returns-then-comes_late c =
    let run = c.args.self.now in
    let l : c.args.a < actor_count (sheet_of run) = omega (arith, c.actor_count-count.ensures.value) in
    let m : c.args.b < actor_count (sheet_of run) = omega (arith, c.actor_count-count.ensures.value) in
    let may : may_join run.order.rows c.args.a c.args.b ≡ true = search rules in
    let with_it : before run.order.rows c.args.b c.args.a ≡ true → ⊥ =
    not_against run.order.rows c.args.a c.args.b (omega (arith, c.actor_count-count.ensures.few)) (omega (arith, c.actor_count-count.ensures.few)) c.if-a-b.false
    may in
    refused_call run (order c.args.a c.args.b) Late tt
    (order_late_steps (sheet_of run) run.records run.order.rows c.args.a c.args.b l m c.if-a-b.false
    with_it c.if-comes_late.ensures)

granted_steps : (c : Else-comes_late) →
    Steps (sheet_of c.args.self.now) (order c.args.a c.args.b) granted c.args.self.now.records c.args.self.now.order.rows c.args.self.now.records c.in_ok-order.order.rows
granted_steps c =
    let run = c.args.self.now in
    let l : c.args.a < actor_count (sheet_of run) = omega (arith, c.actor_count-count.ensures.value) in
    let m : c.args.b < actor_count (sheet_of run) = omega (arith, c.actor_count-count.ensures.value) in
    let may : may_join run.order.rows c.args.a c.args.b ≡ true = search rules in
    let with_it : before run.order.rows c.args.b c.args.a ≡ true → ⊥ =
    not_against run.order.rows c.args.a c.args.b (omega (arith, c.actor_count-count.ensures.few)) (omega (arith, c.actor_count-count.ensures.few)) c.if-a-b.false
    may in
    let joins : (x y : ℕ) → before c.in_ok-order.order.rows x y ≡ joined (before run.order.rows) c.args.a c.args.b x y = search rules in
    order_steps (sheet_of run) run.records run.order.rows c.args.a c.args.b l m c.if-a-b.false
    with_it c.in_ok-order.order.rows joins c.if-comes_late.ensures

pub invariant_of-self : goal.invariant_of-self
invariant_of-self c =
    let run = c.args.self.now in record { long = run.long; reached = goes_on (sheet_of run) (order c.args.a c.args.b) granted run.records run.order.rows run.records c.in_ok-order.order.rows run.reached (granted_steps c) }

pub returns : goal.returns
returns c = record { graph = refl; steps = granted_steps (goal.at.returns c).Else-comes_late; leaves = refl; suits = tt }
