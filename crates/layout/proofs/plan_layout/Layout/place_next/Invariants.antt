use Rattle.std.proofs.Common.{◌≡◌, ◌+◌, ◌≤◌, vec_len}
use Rattle.queue.specs.Waiting.{waiting}
use Rattle.layout.proofs.Progress.{Progress}
use Rattle.layout.proofs.plan_layout.Layout.place_next.Given as goal

abbrev pub invariant-loop-next : goal.invariant-loop-next
invariant-loop-next g l = record {
  progress : Progress (g.W.ObjectSet.sizes l.placer.world.now) (g.W.ObjectSet.excluding l.placer.world.now) l.placer.space.capacity l.placer.space.grain.bytes l.placer.bank (g.R.FitRule.answers l.placer.rule.now) l.initial.self.spots.items
      l.self.spots.items l.self.items.list.items (waiting l.queue);
  few : l.queue.len + vec_len l.self.items.list ≤ 256;
  spots : vec_len l.self.spots ≡ vec_len l.initial.self.spots;
  banks : l.self.banks ≡ l.initial.self.banks;
}

abbrev pub decreases-loop-next : goal.decreases-loop-next
decreases-loop-next g l = l.queue.len
