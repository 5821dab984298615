use Rattle.std.proofs.Common.{◌≡◌, ℕ, ◌<◌, ◌≤◌, true, false, sym, ◌∙◌, ⊎_elim, arith, below_more}
use Rattle.std.proofs.lemmas.Bool.{cases_lt}
use Rattle.rules.specs.Runs.{finished}
use Rattle.graph.specs.Rows.{before}
use Rattle.graph.proofs.Tables.{past_rows}
use Rattle.run.specs.Called.{sheet_of}
use Rattle.run.specs.Records.{phase_in}
use Rattle.run.proofs.sheet_run.Run.is_free.Goals as goal
use Rattle.run.proofs.sheet_run.Run.is_free.Goals.{else-before-via-then-before+else-not-is_finished, else-before-via-else-before}

clash : false ≡ true → ⊥
clash e = let k : ◌≡◌ {A = ℕ} 0 1 = cc in omega arith

pub loop-b-preserved : goal.loop-b-preserved
loop-b-preserved c =
    let run = c.args.self.now in
    let Done : ℕ → Type 0 = λ k. before run.order.rows k c.args.a ≡ true → phase_in (sheet_of run) run.records k ≡ finished in
    below_more Done c.loop-b.b c.loop-b.invariant
    (elim c.else-before.branch [
      | else-before-via-then-before+else-not-is_finished w ↦ λ t. w.if-not-is_finished.ensures
      | else-before-via-else-before w ↦ λ t. absurd (clash (sym w.if-before.false ∙ (c.before-in-loop-b.ensures ∙ t)))
    ])

pub returns : goal.returns
returns c b t =
    let rows = c.args.self.now.order.rows in
    ⊎_elim
    (λ (l : b < 64). c.loop-b.invariant b (omega arith) t)
    (λ (l : 64 ≤ b). absurd (clash (sym (past_rows rows b c.args.a (omega (arith, c.args.self.now.order.long))) ∙ t)))
    (cases_lt b 64)
