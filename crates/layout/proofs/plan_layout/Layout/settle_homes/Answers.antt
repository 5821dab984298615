use Rattle.std.proofs.Common.{◌≡◌, ◌+◌, [], ◌∷◌, ◌++◌, sym, ap, ◌∙◌, arith}
use Rattle.std.proofs.lemmas.List.{map_push}
use Rattle.layout.specs.declared.spots.Spot.{Spot}
use Rattle.layout.specs.Spots.{homes_of}
use Rattle.layout.specs.Worlds.{homes_below, seen}
use Rattle.layout.proofs.Whole.{homes_push}
use Rattle.layout.proofs.plan_layout.Layout.settle_homes.Goals as goal

pub loop-x-preserved : goal.loop-x-preserved
loop-x-preserved g c =
    let w = seen (g.W.ObjectSet.count c.args.world.now) (g.W.ObjectSet.sizes c.args.world.now) (g.W.ObjectSet.excluding c.args.world.now) (g.W.ObjectSet.touched c.args.world.now) in
    let m = g.F.Fabric.means c.args.fabric.now in
    let x = c.loop-x.x in (
      ap homes_of c.push_reserved.ensures.items ∙ map_push (λ (s : Spot). s.homes) c.loop-x.self.spots.items _ ∙ ap (λ hs. hs ++ c.homes.result ∷ []) c.loop-x.invariant.0
          ∙ ap (λ h. homes_below w m x ++ h ∷ []) (c.homes.ensures ∙ ap (λ s. m.homes s) c.touching.ensures) ∙ sym (homes_push w m x),
      c.push_reserved.ensures.len ∙ ap (λ n. n + 1) c.loop-x.invariant.1,
      c.loop-x.invariant.2,
    )

pub returns : goal.returns
returns g c =
    let w = seen (g.W.ObjectSet.count c.args.world.now) (g.W.ObjectSet.sizes c.args.world.now) (g.W.ObjectSet.excluding c.args.world.now) (g.W.ObjectSet.touched c.args.world.now) in
    let end : c.loop-x.x ≡ g.W.ObjectSet.count c.args.world.now = omega (arith, c.len-x-end.ensures) in
    record {
      homes = c.loop-x.invariant.0 ∙ ap (homes_below w (g.F.Fabric.means c.args.fabric.now)) end;
      spots = c.loop-x.invariant.1 ∙ end;
      banks = c.loop-x.invariant.2;
    }
