use Rattle.std.proofs.Common.{◌≡◌, [], length, set, Some, sym, ap, ◌∙◌, subst, arith}
use Rattle.std.proofs.lemmas.List.{get_or_default}
use Rattle.layout.specs.declared.spots.Spot.{Spot}
use Rattle.layout.specs.Banks.{Asked}
use Rattle.layout.specs.Spots.{spot_at}
use Rattle.layout.proofs.Noted.{written_spot}
use Rattle.layout.proofs.plan_layout.Layout.take_turn.Goals as goal

pub returns-clause-outcome : goal.returns-clause-outcome
returns-clause-outcome g c =
    let world = c.args.placer.now.world.now in
    let spots = c.args.self.now.spots.items in
    let x = c.args.x in
    let it = c.in_ok-item.item in
    let same : c.in_ok-item.item.object ≡ x = c.in_ok-item.ensures.object in
    let none : Spot = record { homes = 0; places = [] } in
    let found : c.index_mut.result.now ≡ spot_at spots x = c.index_mut.ensures.value ∙ get_or_default spots x c.index_mut.result.now none (omega (arith, c.args.self.now.spots.ok)) in
    record {
      item = it;
      asked =
          subst (λ ks. Asked (g.W.ObjectSet.excluding world) (g.R.FitRule.answers c.args.placer.now.rule.now) c.args.placer.now.space.capacity c.args.placer.now.space.grain.bytes (g.W.ObjectSet.sizes world x) x ks (Some it.on.start)) c.as_slice.ensures.value c.in_ok-item.ensures.answer;
      object = same;
      bytes = c.in_ok-item.ensures.bytes;
      at = c.insert.ensures.items.0;
      put = c.insert.ensures.items.1;
      wide = ap (λ (s : Spot). length s.places) (sym found) ∙ c.put.ensures.wide;
      noted = ap (λ (s : Spot). set spots x s) (written_spot c.put.new.self c.index_mut.result.now (spot_at spots x) c.args.placer.now.bank it.on.start found c.put.ensures.homes c.put.ensures.places);
    }
