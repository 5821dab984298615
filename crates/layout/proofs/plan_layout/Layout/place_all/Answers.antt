use Rattle.std.proofs.Common.{◌≡◌, length, sym, ap, ◌∙◌, subst, arith}
use Rattle.std.proofs.lemmas.List.{length_push}
use Rattle.std.proofs.lemmas.Result.{err_from_is_err_and}
use Rattle.layout.specs.Banks.{bank_over}
use Rattle.layout.specs.Spots.{homes_of}
use Rattle.layout.specs.Turns.{objects_at}
use Rattle.layout.specs.Worlds.{seen, Next, NotSettled, Unsettled}
use Rattle.layout.proofs.Asked.{cases_err}
use Rattle.layout.proofs.Whole.{settled_more, fit_more, not_settled}
use Rattle.layout.proofs.plan_layout.Layout.place_all.Goals as goal

pub returns-in_err-place_next : goal.returns-in_err-place_next
returns-in_err-place_next g c =
    let w = seen (g.W.ObjectSet.count c.args.world.now) (g.W.ObjectSet.sizes c.args.world.now) (g.W.ObjectSet.excluding c.args.world.now) (g.W.ObjectSet.touched c.args.world.now) in
    let m = g.F.Fabric.means c.args.fabric.now in
    let rule = g.R.FitRule.answers c.args.rule.now in
    let l = c.loop-bank in
    let told = subst (λ n. Unsettled (bank_over w.sizes w.excluding c.capacity.result c.args.grain.bytes (objects_at (homes_of l.self.spots.items) l.bank)) rule n l.bank c.in_err-place_next.field-0.0) l.invariant.memory c.in_err-place_next.ensures.outcome in
    let e = not_settled w m rule c.args.grain.bytes (length c.args.memory.now) l.bank l.self.spots.items l.invariant.homes l.self.banks.items l.invariant.settled l.invariant.fit (omega (arith, l.self.banks.ok, l.invariant.banks))
    c.capacity.result c.capacity.ensures (omega (arith, c.loop-bank-test.true, c.banks-bank-end.ensures)) c.in_err-place_next.field-0.0 told in
    let p = err_from_is_err_and c.from_residual.result c.from_residual.ensures.1 in
    record {
      outcome = cases_err _ _ c.from_residual.result p.0 p.1 (subst (NotSettled w m rule c.args.grain.bytes (length c.args.memory.now)) (sym p.2) e);
    }

pub loop-bank-preserved : goal.loop-bank-preserved
loop-bank-preserved g c =
    let w = seen (g.W.ObjectSet.count c.args.world.now) (g.W.ObjectSet.sizes c.args.world.now) (g.W.ObjectSet.excluding c.args.world.now) (g.W.ObjectSet.touched c.args.world.now) in
    let m = g.F.Fabric.means c.args.fabric.now in
    let rule = g.R.FitRule.answers c.args.rule.now in
    let l = c.loop-bank in
    let new = c.place_next.new.self in
    let next = subst (λ n. Next (bank_over w.sizes w.excluding c.capacity.result c.args.grain.bytes (objects_at (homes_of l.self.spots.items) l.bank)) rule n l.bank l.self.banks.items l.self.spots.items new.banks.items new.spots.items) l.invariant.memory c.in_ok-place_next.ensures.outcome in
    let counted : length l.self.banks.items ≡ l.bank = omega (arith, l.self.banks.ok, l.invariant.banks) in
    record {
      homes = next.homes ∙ l.invariant.homes;
      spots = c.place_next.ensures.spots ∙ l.invariant.spots;
      banks = omega (arith, ap length next.pushed, length_push l.self.banks.items next.used, new.banks.ok, counted);
      memory = c.place_next.auto.memory ∙ l.invariant.memory;
      settled =
          settled_more w m rule c.args.grain.bytes (length c.args.memory.now) l.bank l.self.spots.items l.invariant.homes l.self.banks.items l.invariant.settled l.invariant.fit counted
          c.capacity.result c.capacity.ensures new.banks.items new.spots.items next;
      fit =
          fit_more w m rule c.args.grain.bytes (length c.args.memory.now) l.bank l.self.spots.items l.invariant.homes l.self.banks.items l.invariant.settled l.invariant.fit counted
          c.capacity.result c.capacity.ensures new.banks.items new.spots.items next;
    }
