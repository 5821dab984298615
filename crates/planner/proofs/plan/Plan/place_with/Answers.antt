use Rattle.std.proofs.Common.{length, vec_items, sym, refl, ap, ◌∙◌, arith}
use Rattle.std.proofs.lemmas.Result.{err_from_is_err_and}
use Rattle.graph.specs.Seats.{all_on}
use Rattle.planner.specs.declared.faults.JobFault.TheVariants.{Empty}
use Rattle.planner.proofs.Mapped.{refused, granted}
use Rattle.planner.proofs.Placings.{ends_empty, ends_short, ends_without_core, ends_refused, ends_placed}
use Rattle.planner.proofs.plan.Plan.place_with.Goals as goal

pub returns-in_err-machine : goal.returns-in_err-machine
returns-in_err-machine g c =
    let no = refused c.head.result Empty c.in_err-machine.field-0.0 (sym c.ok_or.ensures.value ∙ c.in_err-machine.was) in
    let e = err_from_is_err_and c.from_residual.result c.from_residual.ensures.1 in
    rw (e.1, e.2, no.1)
    (ends_empty c.args.self.now (g.F.Fabric.means c.args.fabric.now) (g.R.FitRule.answers c.args.rule.now) (length c.args.memory.now) (sym c.head.ensures.head ∙ no.0))

pub returns-then-memory-len : goal.returns-then-memory-len
returns-then-memory-len g c =
    ends_short c.args.self.now (g.F.Fabric.means c.args.fabric.now) (g.R.FitRule.answers c.args.rule.now) (length c.args.memory.now)
    (c.in_ok-machine.machine, c.in_ok-machine.field-0-1)
    (sym c.head.ensures.head ∙ granted c.head.result Empty (c.in_ok-machine.machine, c.in_ok-machine.field-0-1) (sym c.ok_or.ensures.value ∙ c.in_ok-machine.was))
    (omega (arith, c.if-memory-len.true, c.len.ensures))

pub returns-then-not-fits_on : goal.returns-then-not-fits_on
returns-then-not-fits_on g c =
    ends_without_core c.args.self.now (g.F.Fabric.means c.args.fabric.now) (g.R.FitRule.answers c.args.rule.now) (length c.args.memory.now)
    (c.in_ok-machine.machine, c.in_ok-machine.field-0-1)
    (sym c.head.ensures.head ∙ granted c.head.result Empty (c.in_ok-machine.machine, c.in_ok-machine.field-0-1) (sym c.ok_or.ensures.value ∙ c.in_ok-machine.was))
    (omega (arith, c.if-memory-len.false, c.len.ensures))
    (ap (λ n. all_on n (vec_items c.args.self.now.graph.sheet.actors)) (sym c.cores.ensures) ∙ sym c.fits_on.ensures ∙ c.if-not-fits_on.true)

pub returns-in_err-fill : goal.returns-in_err-fill
returns-in_err-fill g c =
    let e = err_from_is_err_and c.from_residual-in_err-fill.result c.from_residual-in_err-fill.ensures.1 in
    rw (e.1, e.2)
    (ends_refused c.args.self.now (g.F.Fabric.means c.args.fabric.now) (g.R.FitRule.answers c.args.rule.now) (length c.args.memory.now)
    (c.in_ok-machine.machine, c.in_ok-machine.field-0-1)
    (sym c.head.ensures.head ∙ granted c.head.result Empty (c.in_ok-machine.machine, c.in_ok-machine.field-0-1) (sym c.ok_or.ensures.value ∙ c.in_ok-machine.was))
    (omega (arith, c.if-memory-len.false, c.len.ensures))
    (record { graph = c.args.self.now.graph; layout = c.fill.new.self }) refl
    (ap (λ n. all_on n (vec_items c.args.self.now.graph.sheet.actors)) (sym c.cores.ensures) ∙ sym c.fits_on.ensures ∙ c.if-not-fits_on.false)
    c.in_err-fill.field-0.0
    c.in_err-fill.ensures.outcome
    c.in_err-fill.ensures.placed)

pub returns : goal.returns
returns g c =
    let f = c.args.fabric.now in
    let m = g.F.Fabric.means f in
    ends_placed c.args.self.now m (g.R.FitRule.answers c.args.rule.now) (length c.args.memory.now)
    (c.in_ok-machine.machine, c.in_ok-machine.field-0-1)
    (sym c.head.ensures.head ∙ granted c.head.result Empty (c.in_ok-machine.machine, c.in_ok-machine.field-0-1) (sym c.ok_or.ensures.value ∙ c.in_ok-machine.was))
    (omega (arith, c.if-memory-len.false, c.len.ensures))
    (record { graph = c.args.self.now.graph; layout = c.fill.new.self }) refl
    (ap (λ n. all_on n (vec_items c.args.self.now.graph.sheet.actors)) (sym c.cores.ensures) ∙ sym c.fits_on.ensures ∙ c.if-not-fits_on.false)
    (record {
      few_banks = omega (arith, g.met.F.Fabric.few, g.met.F.Fabric.within f);
      capacities_in_range = g.met.F.Fabric.fits f;
      homely = g.met.F.Fabric.homely f;
    })
    (g.met.R.FitRule.lawful c.args.rule.now)
    c.in_ok-fill.ensures.outcome
    c.in_ok-fill.ensures.placed
