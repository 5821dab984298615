use Rattle.std.proofs.Common.{◌≡◌, vec_items, rules}
use Rattle.std.specs.Prelude.{MatchOption}
use Rattle.rules.specs.declared.sheet.Actor.{Actor}
use Rattle.graph.proofs.Looked.{found}
use Rattle.graph.proofs.sheet_graph.Graph.core_of.Goals as goal

pub returns : goal.returns
returns c =
    let is : MatchOption c.get.result (c.map_or.result ≡ 0) (λ a. c.map_or.result ≡ a.now.core) = search rules in
    let at = c.get.ensures.lookup in
    found (λ a. a.now) (λ (a : Actor). a.core) (vec_items c.args.self.now.sheet.actors) c.as_slice-actors.result.now c.args.actor 0 c.map_or.result c.get.result c.as_slice-actors.ensures.value at.1 at.3 is
