use Rattle.std.proofs.Common.{ℕ, Some, None, Err, Bor, sym, ap, ◌∙◌, arith}
use Rattle.std.specs.Option.{option_map}
use Rattle.std.proofs.lemmas.Result.{err_from_is_err_and}
use Rattle.std.proofs.lemmas.Iterator.{YieldsList-from_slice}
use Rattle.std.proofs.lemmas.Iterator.Consumers.{YieldsList-at, YieldsList-from_filter}
use Rattle.layout.specs.declared.items.Item.{Item}
use Rattle.layout.specs.declared.faults.LayoutFault.TheVariants.{NoGap}
use Rattle.layout.proofs.Asked.{place_within, kept_in_order, asked_from, refused, granted, cases_err}
use Rattle.layout.proofs.placer.Placer.place.Goals as goal

pub overflow_add-end : goal.overflow_add-end
overflow_add-end g c =
    let world = c.args.self.now.world.now in
    let space = c.args.self.now.space in
    let some = g.met.W.ObjectSet.filled world c.args.x c.requires.known in
    let small = g.met.W.ObjectSet.small world c.args.x c.requires.known in
    let low = place_within (g.R.FitRule.answers c.args.self.now.rule.now) (g.met.R.FitRule.lawful c.args.self.now.rule.now) c.find_gaps.new.gaps.items space.capacity c.size-size.result space.grain.bytes c.in_ok-start.start c.in_ok-start.field-0-1 (omega arith) (omega arith) space.grain.tabled (rw (sym c.as_slice.ensures.value) c.as_slice.ensures.fits) c.find_gaps.ensures.ascending c.find_gaps.ensures.within (cc c.in_ok-start.ensures.ok_part) in
    omega arith

pub returns-clause-within : goal.returns-clause-within
returns-clause-within g c =
    let world = c.args.self.now.world.now in
    let space = c.args.self.now.space in
    let some = g.met.W.ObjectSet.filled world c.args.x c.requires.known in
    let small = g.met.W.ObjectSet.small world c.args.x c.requires.known in
    place_within (g.R.FitRule.answers c.args.self.now.rule.now) (g.met.R.FitRule.lawful c.args.self.now.rule.now) c.find_gaps.new.gaps.items space.capacity c.size-size.result space.grain.bytes c.in_ok-start.start c.in_ok-start.field-0-1 (omega arith) (omega arith) space.grain.tabled (rw (sym c.as_slice.ensures.value) c.as_slice.ensures.fits) c.find_gaps.ensures.ascending c.find_gaps.ensures.within (cc c.in_ok-start.ensures.ok_part)

pub returns-clause-answer : goal.returns-clause-answer
returns-clause-answer g c =
    let world = c.args.self.now.world.now in
    let excluding = g.W.ObjectSet.excluding world in
    let items = c.args.items.now in
    let kept = YieldsList-from_filter _ (λ (it : Item). excluding it.object c.args.x) (YieldsList-at c.filter-blocking.ensures.source (YieldsList-from_slice items c.iter.ensures.rest)) c.filter-blocking.ensures.closure (λ x b q k. ((λ i. (k.called.met.0.0 i, k.called.met.0.1 i)), k.called.met.1 ∙ ap (λ (y : Bor Item). excluding y.now.object c.args.x) k.shows)) in
    let G = c.find_gaps.ensures.gaps _ kept.runs (kept_in_order excluding c.args.x items c.requires.sorted) in
    asked_from excluding (g.R.FitRule.answers c.args.self.now.rule.now) c.args.self.now.space.capacity c.args.self.now.space.grain.bytes (g.W.ObjectSet.sizes world c.args.x) c.size-size.result c.args.x items c.find_gaps.new.gaps.items c.as_slice.result.now (Some c.in_ok-start.start) c.fit.result G c.as_slice.ensures.value c.size-size.ensures c.fit.ensures
    (sym (ap (option_map (λ (a : ℕ × ℕ). a.0)) (granted c.fit.result (NoGap c.args.x c.args.self.now.bank) (c.in_ok-start.start, c.in_ok-start.field-0-1) (sym c.ok_or.ensures.value ∙ c.in_ok-start.was))))

pub returns-in_err-start-clause-answer : goal.returns-in_err-start-clause-answer
returns-in_err-start-clause-answer g c =
    let world = c.args.self.now.world.now in
    let excluding = g.W.ObjectSet.excluding world in
    let items = c.args.items.now in
    let kept = YieldsList-from_filter _ (λ (it : Item). excluding it.object c.args.x) (YieldsList-at c.filter-blocking.ensures.source (YieldsList-from_slice items c.iter.ensures.rest)) c.filter-blocking.ensures.closure (λ x b q k. ((λ i. (k.called.met.0.0 i, k.called.met.0.1 i)), k.called.met.1 ∙ ap (λ (y : Bor Item). excluding y.now.object c.args.x) k.shows)) in
    let G = c.find_gaps.ensures.gaps _ kept.runs (kept_in_order excluding c.args.x items c.requires.sorted) in
    let no = refused c.fit.result (NoGap c.args.x c.args.self.now.bank) c.in_err-start.field-0.0 (sym c.ok_or.ensures.value ∙ c.in_err-start.was) in
    let p = err_from_is_err_and c.from_residual.result c.from_residual.ensures.1 in
    let a = asked_from excluding (g.R.FitRule.answers c.args.self.now.rule.now) c.args.self.now.space.capacity c.args.self.now.space.grain.bytes (g.W.ObjectSet.sizes world c.args.x) c.size-size.result c.args.x items c.find_gaps.new.gaps.items c.as_slice.result.now None c.fit.result G c.as_slice.ensures.value c.size-size.ensures c.fit.ensures (sym (ap (option_map (λ (a : ℕ × ℕ). a.0)) no.0)) in
    cases_err _ _ c.from_residual.result c.in_err-start.field-0.0 (p.1 ∙ ap (λ y. Err y) p.2) (no.1, a)
