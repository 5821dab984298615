use Rattle.std.proofs.Common.{◌≡◌, length, vec_len}
use Rattle.layout.specs.Spots.{homes_of}
use Rattle.layout.specs.Worlds.{homes_below, seen, SettledBelow, FitBelow}
use Rattle.layout.proofs.plan_layout.Layout.place_all.Given as goal

abbrev pub invariant-loop-bank : goal.invariant-loop-bank
invariant-loop-bank g l = record {
  homes : homes_of l.self.spots.items ≡ homes_below (seen (g.W.ObjectSet.count l.world) (g.W.ObjectSet.sizes l.world) (g.W.ObjectSet.excluding l.world) (g.W.ObjectSet.touched l.world)) (g.F.Fabric.means l.fabric) (g.W.ObjectSet.count l.world);
  spots : vec_len l.self.spots ≡ g.W.ObjectSet.count l.world;
  banks : vec_len l.self.banks ≡ l.bank;
  memory : length l.memory ≡ length l.initial.memory;
  settled : SettledBelow (seen (g.W.ObjectSet.count l.world) (g.W.ObjectSet.sizes l.world) (g.W.ObjectSet.excluding l.world) (g.W.ObjectSet.touched l.world)) (g.F.Fabric.means l.fabric) (g.R.FitRule.answers l.rule) l.grain.bytes l.self.banks.items l.self.spots.items l.bank;
  fit : FitBelow (seen (g.W.ObjectSet.count l.world) (g.W.ObjectSet.sizes l.world) (g.W.ObjectSet.excluding l.world) (g.W.ObjectSet.touched l.world)) (g.F.Fabric.means l.fabric) l.grain.bytes (length l.initial.memory) l.bank;
}
