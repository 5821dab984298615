use Rattle.std.proofs.Common.{◌≡◌, vec_len}
use Rattle.layout.specs.Spots.{homes_of}
use Rattle.layout.specs.Worlds.{homes_below, seen}
use Rattle.layout.proofs.plan_layout.Layout.settle_homes.Given as goal

abbrev pub invariant-loop-x : goal.invariant-loop-x
invariant-loop-x g l =
    (homes_of l.self.spots.items ≡ homes_below (seen (g.W.ObjectSet.count l.world) (g.W.ObjectSet.sizes l.world) (g.W.ObjectSet.excluding l.world) (g.W.ObjectSet.touched l.world)) (g.F.Fabric.means l.fabric) l.x)
    × (vec_len l.self.spots ≡ l.x)
    × (l.self.banks ≡ l.initial.self.banks)
